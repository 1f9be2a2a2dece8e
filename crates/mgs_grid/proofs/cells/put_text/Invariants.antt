use Rattle.std.proofs.Common.{◌≡◌, ◌+◌, ◌-◌, ◌*◌, ◌≤◌, length, drop}
use Rattle.mgs_model.specs.Cells.{cells_from}
use Rattle.mgs_grid.specs.Cells.{over}
use Rattle.mgs_grid.proofs.cells.put_text.Given as goal

-- the characters that are left, from here, give what all give from the start
abbrev pub invariant-loop-at : goal.invariant-loop-at
invariant-loop-at l = record {
  within : l.at ≤ length l.chars;
  row : over l.row l.shift l.next (cells_from l.next (drop l.at l.chars)) ≡ over l.fn.row l.shift l.column (cells_from l.column l.chars);
  next : l.next + length (cells_from l.next (drop l.at l.chars)) ≡ l.column + length (cells_from l.column l.chars);
  few : l.next ≤ l.column + 12 * l.at;
}

abbrev pub decreases-loop-at : goal.decreases-loop-at
decreases-loop-at l = length l.chars - l.at
