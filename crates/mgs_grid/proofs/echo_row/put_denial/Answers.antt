use Rattle.mgs_grid.proofs.CellLemmas.{wrote_more}
use Rattle.mgs_grid.proofs.echo_row.put_denial.Goals as goal

pub returns-in-DeniedBy-clause-wrote : goal.returns-in-DeniedBy-clause-wrote
returns-in-DeniedBy-clause-wrote c =
    rw c.in-DeniedBy.is (wrote_more (wrote_more (wrote_more c.put_bytes-at_entry.ensures.wrote c.put_decimal-at_verb.ensures.wrote) c.put_bytes-at_right.ensures.wrote) c.put_right.ensures.wrote)
