use Rattle.std.proofs.Common.{ap, ◌∙◌, arith}
use Rattle.std.specs.List.{position_or_len}
use Rattle.mgs_engine.specs.Tapes.{has_piece_id, piece_queue}
use Rattle.mgs_engine.proofs.Tapes.{added_first, added_there, err_then, ok_then, set_same}
use Rattle.mgs_engine.proofs.tape.add_bytes.Goals as goal

pub returns-then-at-len-clause-ok : goal.returns-then-at-len-clause-ok
returns-then-at-len-clause-ok c =
    ok_then c.lengthen.result c.lengthen.ensures.ok (λ e.
    added_there c.args.id c.args.bytes.now c.args.pieces.now.items c.piece_place-at.result c.index_mut.result.now c.lengthen.new.piece
    (c.piece_place-at.ensures.value ∙ ap (position_or_len (has_piece_id c.args.id)) c.deref.ensures.value)
    (omega (arith, c.if-at-len.true, c.len.ensures, c.args.pieces.now.ok.0)) c.index_mut.ensures.value e)

pub returns-then-at-len-clause-err : goal.returns-then-at-len-clause-err
returns-then-at-len-clause-err c =
    err_then c.lengthen.result c.lengthen.ensures.err (λ e.
    set_same c.args.pieces.now.items c.piece_place-at.result c.index_mut.result.now c.lengthen.new.piece
    (omega (arith, c.if-at-len.true, c.len.ensures, c.args.pieces.now.ok.0)) (e ∙ ap piece_queue c.index_mut.ensures.value))

pub returns-else-at-len-clause-ok : goal.returns-else-at-len-clause-ok
returns-else-at-len-clause-ok c =
    ok_then c.begin.result c.begin.ensures.ok (λ e.
    added_first c.args.id c.args.bytes.now c.args.pieces.now.items _ c.piece_place-at.result
    (c.piece_place-at.ensures.value ∙ ap (position_or_len (has_piece_id c.args.id)) c.deref.ensures.value)
    (omega (arith, c.piece_place-at.ensures.within, c.deref.ensures.len, c.args.pieces.now.ok.0))
    (omega (arith, c.if-at-len.false, c.len.ensures, c.args.pieces.now.ok.0)) e)
