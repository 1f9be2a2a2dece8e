use Rattle.std.proofs.Common.{◌≡◌, take}
use Rattle.mgs_grid.specs.Cells.{over}
use Rattle.mgs_grid.proofs.cells.put_bytes.Given as goal

abbrev pub invariant-loop-i : goal.invariant-loop-i
invariant-loop-i l = l.row ≡ over l.initial.row 0 l.column (take l.i l.bytes)
