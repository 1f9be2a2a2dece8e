use Rattle.mgs_grid.proofs.RowSets.{has_none}
use Rattle.mgs_grid.proofs.row_set.RowSet.none.Goals as goal

pub returns : goal.returns
returns c = has_none 64

pub invariant_of-result : goal.invariant_of-result
invariant_of-result c = λ none. record { each = has_none 64 }
