use Rattle.mgs_grid.proofs.RowSets.{has_all}
use Rattle.mgs_grid.proofs.row_set.RowSet.all.Goals as goal

pub returns : goal.returns
returns c = has_all 64
