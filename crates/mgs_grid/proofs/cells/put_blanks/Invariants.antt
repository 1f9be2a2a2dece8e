use Rattle.std.proofs.Common.{◌≡◌, replicate}
use Rattle.mgs_grid.specs.Cells.{over}
use Rattle.mgs_grid.proofs.cells.put_blanks.Given as goal

abbrev pub invariant-loop-at : goal.invariant-loop-at
invariant-loop-at l = l.row ≡ over l.initial.row l.shift l.column (replicate l.at 32)
