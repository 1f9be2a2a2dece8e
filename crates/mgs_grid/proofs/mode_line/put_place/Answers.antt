use Rattle.mgs_grid.proofs.CellLemmas.{wrote_more}
use Rattle.mgs_grid.proofs.mode_line.put_place.Goals as goal

pub returns-clause-wrote : goal.returns-clause-wrote
returns-clause-wrote c =
    rw c.in-Some.is (wrote_more (wrote_more (wrote_more c.put_bytes-at_line.ensures.wrote c.put_decimal-at_mark.ensures.wrote) c.put_bytes-at_column.ensures.wrote) c.put_decimal.ensures.wrote)
