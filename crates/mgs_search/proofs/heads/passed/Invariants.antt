use Rattle.std.proofs.Common.{◌<◌, ℕ, get_or}
use Rattle.mgs_search.specs.Borders.{IsOther}
use Rattle.mgs_search.proofs.heads.passed.Given as goal

abbrev pub invariant-loop-i : goal.invariant-loop-i
invariant-loop-i l = (t : ℕ) → t < l.i → IsOther l.first (get_or l.piece t 0)
