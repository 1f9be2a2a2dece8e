use Rattle.std.proofs.Common.{◌≡◌, take, All}
use Rattle.mgs_model.specs.Rows.{blank_rows}
use Rattle.mgs_grid.specs.Cells.{HasWidth}
use Rattle.mgs_grid.proofs.window.clear_rows.Given as goal

abbrev pub invariant-loop-line : goal.invariant-loop-line
invariant-loop-line l = record { each : All (HasWidth l.cols) l.lines; rows : take l.line-index l.lines ≡ blank_rows l.cols l.line-index }
