use Rattle.std.proofs.Common.{◌<◌, ◌≤◌, ◌-◌, length}
use Rattle.mgs_search.specs.Borders.{IsRead, lower_at}
use Rattle.mgs_search.proofs.heads.next_headed.Given as goal

-- the text is read up to here
abbrev pub invariant-loop-i : goal.invariant-loop-i
invariant-loop-i g l =
    record {
      order : l.from ≤ l.i;
      within : l.i ≤ length (g.T.Text.text l.text);
      below : l.stands < length l.borders;
      read : IsRead l.head (lower_at (g.T.Text.text l.text)) l.from l.i l.stands;
    }

abbrev pub decreases-loop-i : goal.decreases-loop-i
decreases-loop-i g l = length (g.T.Text.text l.text) - l.i
