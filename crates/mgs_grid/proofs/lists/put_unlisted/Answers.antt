use Rattle.mgs_grid.proofs.CellLemmas.{wrote_more}
use Rattle.mgs_grid.proofs.lists.put_unlisted.Goals as goal

pub returns : goal.returns
returns c = wrote_more (wrote_more c.put_bytes-start.ensures.wrote c.put_cause-end.ensures.wrote) c.put_bytes.ensures.wrote
