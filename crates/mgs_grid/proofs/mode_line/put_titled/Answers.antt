use Rattle.mgs_grid.proofs.CellLemmas.{wrote_more}
use Rattle.mgs_grid.proofs.mode_line.put_titled.Goals as goal

pub returns-clause-wrote : goal.returns-clause-wrote
returns-clause-wrote c = wrote_more c.put_name-end.ensures.wrote c.put_bytes.ensures.wrote
