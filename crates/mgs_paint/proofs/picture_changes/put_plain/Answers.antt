use Rattle.std.proofs.Common.{◌∙◌, ap, max, refl, arith}
use Rattle.mgs_paint.specs.Changes.{ink_end}
use Rattle.mgs_paint.proofs.Columns.{ink_apart}
use Rattle.mgs_paint.proofs.Changing.{slice_whole}
use Rattle.mgs_paint.proofs.Pieces.{erased_bytes, written_bytes, erased_moves, written_moves}
use Rattle.mgs_paint.proofs.picture_changes.put_plain.Goals as goal

pub returns-then-ink-end-clause-items : goal.returns-then-ink-end-clause-items
returns-then-ink-end-clause-items c =
    erased_bytes c.args.text.now c.args.start c.args.end _ _ _ _ (c.erase_start-ink.ensures.erased c.if-ink-end.true) c.if-ink-end.true c.put_text.ensures.items c.put_erase.ensures.items

pub returns-then-ink-end-clause-cursor : goal.returns-then-ink-end-clause-cursor
returns-then-ink-end-clause-cursor c =
    let is = c.erase_start-ink.ensures.erased c.if-ink-end.true in
    erased_moves c.args.text.now c.args.row c.args.start c.args.end _ c.requires.order c.requires.within is c.if-ink-end.true
    (slice_whole c.args.text.now c.args.start _ c.requires.whole c.erase_start-ink.ensures.from c.requires.first (ink_apart c.args.text.now _ (omega (arith, is))))

pub returns-else-ink-end-clause-items : goal.returns-else-ink-end-clause-items
returns-else-ink-end-clause-items c =
    written_bytes c.args.text.now c.args.start c.args.end (max (ink_end c.args.text.now) c.args.start) _ _ refl (c.erase_start-ink.ensures.written c.if-ink-end.false) c.put_text-else-ink-end.ensures.items

pub returns-else-ink-end-clause-cursor : goal.returns-else-ink-end-clause-cursor
returns-else-ink-end-clause-cursor c =
    ap (λ n. (c.args.row, n)) c.min.ensures
    ∙ written_moves c.args.text.now c.args.row c.args.start c.args.end (max (ink_end c.args.text.now) c.args.start) c.requires.order c.requires.within refl (c.erase_start-ink.ensures.written c.if-ink-end.false)
    (slice_whole c.args.text.now c.args.start c.args.end c.requires.whole (omega (arith, c.requires.order)) c.requires.first c.requires.last)
