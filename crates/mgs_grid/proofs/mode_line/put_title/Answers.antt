use Rattle.mgs_grid.proofs.CellLemmas.{wrote_more}
use Rattle.mgs_grid.proofs.mode_line.put_title.Goals as goal

pub returns-then-modified-clause-wrote : goal.returns-then-modified-clause-wrote
returns-then-modified-clause-wrote c = rw c.if-modified.true (wrote_more c.put_bytes-start.ensures.wrote c.put_titled.ensures.wrote)

pub returns-else-modified-clause-wrote : goal.returns-else-modified-clause-wrote
returns-else-modified-clause-wrote c = rw c.if-modified.false (wrote_more c.put_bytes-start-else-modified.ensures.wrote c.put_titled-else-modified.ensures.wrote)
