use Rattle.std.proofs.Common.{◌≡◌, drop}
use Rattle.mgs_keep.specs.Sums.{summed}
use Rattle.mgs_keep.proofs.kept_texts.piece_sum.Given as goal

-- what is left makes of the sum what all makes of the first
abbrev pub invariant-loop-c : goal.invariant-loop-c
invariant-loop-c l = summed l.sum (drop l.c-index l.piece) ≡ summed l.fn.sum l.piece
