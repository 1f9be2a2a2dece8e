use Rattle.std.proofs.Common.{◌≡◌, ◌≤◌, ◌*◌, ◌+◌, ◌-◌, length}
use Rattle.std.specs.Prelude.{slice_range}
use Rattle.mgs_model.specs.Cells.{cells_from}
use Rattle.mgs_lines.proofs.columns.column_from.Given as goal

-- from here on the same column is reached as from the start
abbrev pub invariant-loop-i : goal.invariant-loop-i
invariant-loop-i g l =
    record {
      order : l.i ≤ l.p;
      from : l.from ≤ l.i;
      value : l.at + length (cells_from l.at (slice_range (g.T.Text.text l.text) l.i l.p)) ≡ l.column + length (cells_from l.column (slice_range (g.T.Text.text l.text) l.from l.p));
      few : l.at ≤ l.column + 12 * (l.i - l.from);
    }

abbrev pub decreases-loop-i : goal.decreases-loop-i
decreases-loop-i g l = l.p - l.i
