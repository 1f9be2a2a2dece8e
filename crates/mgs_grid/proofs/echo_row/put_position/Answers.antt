use Rattle.mgs_grid.proofs.CellLemmas.{wrote_more}
use Rattle.mgs_grid.proofs.echo_row.put_position.Goals as goal

pub returns-clause-wrote : goal.returns-clause-wrote
returns-clause-wrote c =
    wrote_more (wrote_more (wrote_more (wrote_more (wrote_more (wrote_more (wrote_more c.put_bytes-at_point.ensures.wrote c.put_decimal-at_of.ensures.wrote) c.put_bytes-at_size.ensures.wrote) c.put_decimal-at_line_word.ensures.wrote) c.put_bytes-at_line.ensures.wrote) c.put_decimal-at_column_word.ensures.wrote) c.put_bytes-at_column.ensures.wrote) c.put_decimal.ensures.wrote
