use Rattle.std.proofs.Common.{◌≡◌}
use Rattle.mgs_keep.proofs.kept_texts.keep_next.Given as goal

-- where memory was refused nothing was done
abbrev pub invariant-loop-place : goal.invariant-loop-place
invariant-loop-place g l = record { journal : l.journal ≡ l.fn.journal; failed : l.failed ≡ l.fn.failed }
