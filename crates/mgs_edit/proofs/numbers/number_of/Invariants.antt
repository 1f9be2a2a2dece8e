use Rattle.std.proofs.Common.{◌≡◌, drop}
use Rattle.std.specs.Prelude.{fold}
use Rattle.mgs_model.specs.Plans.{number_typed}
use Rattle.mgs_edit.proofs.Digits.{with_next}
use Rattle.mgs_edit.proofs.numbers.number_of.Given as goal

-- the digits that are left lead on from the number so far
abbrev pub invariant-loop-i : goal.invariant-loop-i
invariant-loop-i l = record { value : fold with_next l.number (drop l.i l.digits) ≡ number_typed l.digits }
