use Rattle.std.proofs.Common.{◌≡◌, ◌≤◌, ◌*◌, ◌-◌, length}
use Rattle.std.specs.Prelude.{slice_range}
use Rattle.mgs_model.specs.Cells.{cells}
use Rattle.mgs_grid.specs.Cells.{over}
use Rattle.mgs_grid.proofs.cells.put_line.Given as goal

abbrev pub invariant-loop-at : goal.invariant-loop-at
invariant-loop-at g l = record {
  from : l.start ≤ l.at;
  within : l.at ≤ l.end;
  row : l.row ≡ over l.fn.row l.shift 0 (cells (slice_range (g.T.Text.text l.text) l.start l.at));
  column : l.column ≡ length (cells (slice_range (g.T.Text.text l.text) l.start l.at));
  few : l.column ≤ 12 * l.at;
}

abbrev pub decreases-loop-at : goal.decreases-loop-at
decreases-loop-at g l = l.end - l.at
