use Rattle.mgs_grid.proofs.CellLemmas.{wrote_more}
use Rattle.mgs_grid.proofs.mask.put_unread.Goals as goal

pub returns-clause-wrote : goal.returns-clause-wrote
returns-clause-wrote c = wrote_more (wrote_more c.put_bytes-start.ensures.wrote c.put_cause-end.ensures.wrote) c.put_bytes.ensures.wrote
