use Rattle.mgs_grid.proofs.CellLemmas.{wrote_more}
use Rattle.mgs_grid.proofs.lists.put_entry.Goals as goal

pub returns : goal.returns
returns c = wrote_more c.put_decimal-end.ensures.wrote (wrote_more c.put_bytes-at_entry.ensures.wrote c.put_bytes.ensures.wrote)
