use Rattle.std.proofs.Common.{◌≡◌, [], replicate}
use Rattle.mgs_model.specs.Rows.{plain_row}
use Rattle.mgs_grid.proofs.grid.Grid.new.Given as goal

abbrev pub invariant-loop : goal.invariant-loop
invariant-loop l = l.lines.items ≡ replicate l.counter (plain_row l.cols [])
