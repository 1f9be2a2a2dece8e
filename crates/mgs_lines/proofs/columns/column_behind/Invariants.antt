use Rattle.std.proofs.Common.{◌≡◌, ◌≤◌, ◌*◌, ◌+◌, length, take}
use Rattle.mgs_model.specs.Cells.{cells_from}
use Rattle.mgs_lines.proofs.columns.column_behind.Given as goal

abbrev pub invariant-loop-c : goal.invariant-loop-c
invariant-loop-c l = record { value : l.at ≡ l.column + length (cells_from l.column (take l.c-index l.chars)); few : l.at ≤ l.column + 12 * l.c-index }
