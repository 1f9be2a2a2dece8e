use Rattle.mgs_grid.proofs.CellLemmas.{wrote_more, wrote_none}
use Rattle.mgs_grid.proofs.mask.put_cause.Goals as goal

pub returns-in-Granted-clause-wrote : goal.returns-in-Granted-clause-wrote
returns-in-Granted-clause-wrote c = rw c.in-Granted.is (wrote_none c.args.row.now c.args.column)

pub returns-in-DeniedBy-clause-wrote : goal.returns-in-DeniedBy-clause-wrote
returns-in-DeniedBy-clause-wrote c = rw c.in-DeniedBy.is (wrote_more c.put_bytes-at.ensures.wrote c.put_decimal.ensures.wrote)
