use Rattle.std.proofs.Common.{◌≡◌, ◌≤◌, ◌-◌, ◌++◌, take, drop, length, All}
use Rattle.mgs_model.specs.Rows.{text_rows, shift_at}
use Rattle.mgs_grid.specs.Cells.{HasWidth}
use Rattle.mgs_grid.proofs.window.draw_rows.Given as goal

abbrev pub invariant-loop-i : goal.invariant-loop-i
invariant-loop-i g l = record {
  start : l.start ≤ length (g.T.Text.text l.text);
  each : All (HasWidth l.cols) l.lines;
  rows : take l.i l.lines ++ text_rows l.cols (shift_at l.shifted.row l.shifted.shift) l.i (length l.lines - l.i) (drop l.start (g.T.Text.text l.text)) ≡ text_rows l.cols (shift_at l.shifted.row l.shifted.shift) 0 (length l.fn.lines) (drop l.fn.top (g.T.Text.text l.text));
}
