use Rattle.std.proofs.Common.{◌≡◌, ◌+◌, ◌≤◌, length, drop}
use Rattle.mgs_model.specs.Cells.{cells, cells_from}
use Rattle.mgs_fill.proofs.fills.cells_wide.Given as goal

-- the cells so far and those of what is left
abbrev pub invariant-loop-i : goal.invariant-loop-i
invariant-loop-i l = record { value : l.wide + length (cells_from l.wide (drop l.i l.chars)) ≡ length (cells l.chars); few : l.wide ≤ l.fill }
