use Rattle.std.proofs.Common.{◌≡◌, ◌≤◌, ◌*◌, ◌-◌, length}
use Rattle.mgs_model.specs.Walks.{column_place}
use Rattle.mgs_lines.proofs.Fits.{reach}
use Rattle.mgs_lines.proofs.vertical.column_place.Given as goal

-- what fits from here on and what was passed is all that fits
abbrev pub invariant-loop-i : goal.invariant-loop-i
invariant-loop-i g l =
    record {
      from : l.start ≤ l.i;
      within : l.i ≤ length (g.T.Text.text l.text);
      fits : l.column ≤ l.goal;
      few : l.column ≤ 12 * l.i;
      same : reach (g.T.Text.text l.text) l.goal l.column l.i ≡ column_place (g.T.Text.text l.text) l.start l.goal;
    }

abbrev pub decreases-loop-i : goal.decreases-loop-i
decreases-loop-i g l = length (g.T.Text.text l.text) - l.i
