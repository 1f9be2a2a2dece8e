use Rattle.std.proofs.Common.{◌≡◌, take, replicate}
use Rattle.mgs_grid.proofs.cells.fill.Given as goal

abbrev pub invariant-loop-cell : goal.invariant-loop-cell
invariant-loop-cell l = take l.cell-index l.row ≡ replicate l.cell-index l.c
