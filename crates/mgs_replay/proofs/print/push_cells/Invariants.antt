use Rattle.std.proofs.Common.{◌≡◌, ◌++◌, take}
use Rattle.mgs_replay.specs.Prints.{characters}
use Rattle.mgs_replay.proofs.print.push_cells.Given as goal

-- the characters of the cells before the index stand after what was there
abbrev pub invariant-loop-cell : goal.invariant-loop-cell
invariant-loop-cell l = l.out.items ≡ l.fn.out.items ++ characters (take l.cell-index l.cells)
