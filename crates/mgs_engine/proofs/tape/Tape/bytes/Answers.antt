use Rattle.std.proofs.Common.{sym, ap, ◌∙◌, arith}
use Rattle.std.specs.List.{position_or_len}
use Rattle.mgs_engine.specs.Tapes.{bytes_on, has_piece_id}
use Rattle.mgs_engine.proofs.Tapes.{piece_at, piece_none}
use Rattle.mgs_engine.proofs.tape.Tape.bytes.Goals as goal

pub returns-then-at-len : goal.returns-then-at-len
returns-then-at-len c =
    c.as_slice.ensures.value
    ∙ sym (piece_at c.args.id c.self.inside.pieces.items c.piece_place-at.result c.index.result.now
    (c.piece_place-at.ensures.value ∙ ap (position_or_len (has_piece_id c.args.id)) c.deref.ensures.value)
    (omega (arith, c.if-at-len.true, c.len.ensures, c.self.inside.pieces.ok.0)) c.index.ensures)
    ∙ ap (bytes_on c.args.id) c.self.view_is

pub returns-else-at-len : goal.returns-else-at-len
returns-else-at-len c =
    sym (piece_none c.args.id c.self.inside.pieces.items c.piece_place-at.result
    (c.piece_place-at.ensures.value ∙ ap (position_or_len (has_piece_id c.args.id)) c.deref.ensures.value)
    (omega (arith, c.piece_place-at.ensures.within, c.deref.ensures.len, c.self.inside.pieces.ok.0))
    (omega (arith, c.if-at-len.false, c.len.ensures, c.self.inside.pieces.ok.0)))
    ∙ ap (bytes_on c.args.id) c.self.view_is
