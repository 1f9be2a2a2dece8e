use Rattle.std.proofs.Common.{◌<◌, ◌≤◌, ◌-◌, length}
use Rattle.mgs_search.specs.Borders.{IsReadBack}
use Rattle.mgs_search.proofs.heads.last_tailed.Given as goal

-- the text is read back up to here
abbrev pub invariant-loop-i : goal.invariant-loop-i
invariant-loop-i g l =
    record {
      within : l.i ≤ l.top;
      below : l.stands < length l.borders;
      read : IsReadBack l.tail (g.T.Text.text l.text) l.top l.i l.stands;
    }

abbrev pub decreases-loop-i : goal.decreases-loop-i
decreases-loop-i g l = l.top - l.i
