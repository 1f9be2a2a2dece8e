use Rattle.std.proofs.Common.{ℕ, ◌+◌, List, length, ◌∙◌, sym, ap, subst, arith}
use Rattle.std.specs.Prelude.{take}
use Rattle.mgs_buffers.specs.MarkedBuffer.{MarkedBuffer, marked_at}
use Rattle.mgs_edit.specs.Reading.{GoesWithin, IsWithin, change_read, point_read, put_read, top_read}
use Rattle.mgs_plan.specs.Actions.{edited_by, mark_gone}
use Rattle.mgs_plan.proofs.Leaving.{length_edited_by, marks_edited_by, place_edited_by}
use Rattle.mgs_world.proofs.Soundness.{mark_is_kept}
use Rattle.mgs_act.proofs.text_action.change_text.Goals as goal

pub leave-requires : goal.leave-requires
leave-requires g c =
    let held = (λ i. take (length (c.as_slice-held.ensures i)) (c.as_slice.ensures i)) ∙ c.in_ok-made.ensures.held in
    let x = c.args.spot.marks.now in
    let ks = c.args.buffers.now in
    let b = (marked_at x.name ks).buffer in
    let change = change_read b.text c.args.session.now.kill c.args.change.now in
    let within = c.requires.can.within in
    let len = length_edited_by x.name change ks (mark_is_kept x.name x.point ks c.requires.marks.point) within.order within.within in
    record {
      marks = rw (c.in-Ok.ensures.ok, held) (marks_edited_by change ks x c.requires.marks);
      place = rw (c.in-Ok.ensures.ok, held) (place_edited_by x.name change ks c.args.spot.at c.requires.place);
      point = rw (c.in-Ok.ensures.ok, held) (subst (λ n. GoesWithin n c.args.change.now.finish.point) (sym len) within.finish.point);
      top = rw (c.in-Ok.ensures.ok, held) (subst (λ n. IsWithin n c.args.change.now.finish.top) (sym len) within.finish.top);
      behind = rw (c.in-Ok.ensures.ok, held) (omega (arith, c.in-Ok.ensures.end, ap (λ (kill : List ℕ). length (put_read b.text kill c.args.change.now.put)) held, len, within.order, within.within));
    }

pub returns-in-Ok-clause-ok : goal.returns-in-Ok-clause-ok
returns-in-Ok-clause-ok g c =
    let held = (λ i. take (length (c.as_slice-held.ensures i)) (c.as_slice.ensures i)) ∙ c.in_ok-made.ensures.held in
    let x = c.args.spot.marks.now in
    let left = c.args.change.now.finish in
    let text = (marked_at x.name c.args.buffers.now).buffer.text in
    c.leave.ensures.marks
    ∙ ap (λ (ks : List MarkedBuffer). mark_gone x.name x.top (top_read left.top) (mark_gone x.name x.point (point_read c.in-Ok.behind left.point) ks)) c.in-Ok.ensures.ok
    ∙ ap (λ (behind : ℕ). mark_gone x.name x.top (top_read left.top) (mark_gone x.name x.point (point_read behind left.point) (edited_by x.name (change_read text (take (length c.as_slice-held.result.now) c.as_slice.result.now) c.args.change.now) c.args.buffers.now))) c.in-Ok.ensures.end
    ∙ ap (λ (kill : List ℕ). mark_gone x.name x.top (top_read left.top) (mark_gone x.name x.point (point_read (c.args.change.now.from + length (put_read text kill c.args.change.now.put)) left.point) (edited_by x.name (change_read text kill c.args.change.now) c.args.buffers.now))) held
