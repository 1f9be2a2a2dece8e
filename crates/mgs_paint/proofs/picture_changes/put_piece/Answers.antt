use Rattle.std.proofs.Common.{sym, ap, ◌∙◌, length, min, ◌-◌, arith}
use Rattle.mgs_paint.proofs.Changing.{slice_whole}
use Rattle.mgs_paint.proofs.Pieces.{reversed_bytes, reversed_moves}
use Rattle.mgs_paint.proofs.picture_changes.put_piece.Goals as goal

pub returns-then-is_reversed-clause-items : goal.returns-then-is_reversed-clause-items
returns-then-is_reversed-clause-items c =
    reversed_bytes c.args.new.now c.args.start c.args.end _ _ _ _ (sym c.is_reversed.ensures ∙ c.if-is_reversed.true) c.put_reverse.ensures.items (rw c.text-text.ensures at c.put_text.ensures.items) c.put_plain_on.ensures.items

pub returns-then-is_reversed-clause-cursor : goal.returns-then-is_reversed-clause-cursor
returns-then-is_reversed-clause-cursor c =
    ap (λ n. (c.args.row, n)) (c.min.ensures ∙ ap (λ xs. min c.args.end (length xs - 1)) c.text-text.ensures)
    ∙ reversed_moves c.args.new.now c.args.row c.args.start c.args.end (sym c.is_reversed.ensures ∙ c.if-is_reversed.true) c.requires.order c.requires.within
    (slice_whole c.args.new.now.text c.args.start c.args.end c.requires.whole (omega (arith, c.requires.order)) c.requires.first c.requires.last)
