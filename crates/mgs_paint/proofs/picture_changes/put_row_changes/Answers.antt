use Rattle.mgs_paint.proofs.Pieces.{row_moves}
use Rattle.mgs_paint.proofs.picture_changes.put_row_changes.Goals as goal

pub returns-clause-cursor : goal.returns-clause-cursor
returns-clause-cursor c =
    row_moves _ c.args.at c.put_piece.result c.args.row c.start_column-start.result c.end_column-end.result c.args.old.now c.args.new.now c.if-end-eq0.false c.end_column-end.ensures.value c.start_column-start.ensures c.put_piece.ensures.cursor
