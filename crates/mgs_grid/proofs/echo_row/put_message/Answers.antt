use Rattle.mgs_grid.proofs.CellLemmas.{wrote_more}
use Rattle.mgs_grid.proofs.echo_row.put_message.Goals as goal

pub returns-in-CharacterAt-clause-wrote : goal.returns-in-CharacterAt-clause-wrote
returns-in-CharacterAt-clause-wrote c =
    rw c.in-CharacterAt.is (wrote_more (wrote_more c.put_bytes-at_code.ensures.wrote c.put_decimal-end.ensures.wrote) c.put_position.ensures.wrote)

pub returns-in-EndAt-clause-wrote : goal.returns-in-EndAt-clause-wrote
returns-in-EndAt-clause-wrote c = rw c.in-EndAt.is (wrote_more c.put_bytes-end.ensures.wrote c.put_position-in-EndAt.ensures.wrote)
