use Rattle.std.proofs.Common.{◌<◌, ◌≤◌, ◌-◌, ℕ, get_or}
use Rattle.mgs_search.specs.Borders.{IsOther}
use Rattle.mgs_search.proofs.heads.passed_back.Given as goal

abbrev pub invariant-loop-left : goal.invariant-loop-left
invariant-loop-left g l =
    record {
      within : l.left ≤ l.end;
      none : (t : ℕ) → t < l.end - l.left → IsOther l.first (get_or (g.T.Text.text l.text) (l.end - 1 - t) 0);
    }

abbrev pub decreases-loop-left : goal.decreases-loop-left
decreases-loop-left g l = l.left
