use Rattle.std.proofs.Common.{ℕ, ◌≤◌, ◌+◌, List, ◌∙◌, ap, arith}
use Rattle.mgs_buffers.specs.MarkedBuffer.{MarkedBuffer, marked_at}
use Rattle.mgs_edit.specs.Reading.{point_read, top_read, undone_read}
use Rattle.mgs_plan.specs.Actions.{edited_by, mark_gone, removed_by}
use Rattle.mgs_plan.proofs.Leaving.{length_edited_by, marks_edited_by, place_edited_by}
use Rattle.mgs_world.proofs.Soundness.{mark_is_kept}
use Rattle.mgs_act.proofs.text_action.take_back.Goals as goal

pub leave-requires-clause-marks : goal.leave-requires-clause-marks
leave-requires-clause-marks g c =
    let x = c.args.spot.marks.now in
    let b = (marked_at x.name c.args.buffers.now).buffer in
    let kill = c.args.session.now.kill in
    rw (c.in_ok-behind.ensures.ok kill) (marks_edited_by (undone_read b.text kill (removed_by c.args.undone.now.serial b.items) c.args.undone.now) c.args.buffers.now x c.requires.marks)

pub leave-requires-clause-place : goal.leave-requires-clause-place
leave-requires-clause-place g c =
    let x = c.args.spot.marks.now in
    let b = (marked_at x.name c.args.buffers.now).buffer in
    let kill = c.args.session.now.kill in
    rw (c.in_ok-behind.ensures.ok kill) (place_edited_by x.name (undone_read b.text kill (removed_by c.args.undone.now.serial b.items) c.args.undone.now) c.args.buffers.now c.args.spot.at c.requires.place)

pub leave-requires-clause-behind : goal.leave-requires-clause-behind
leave-requires-clause-behind g c =
    let x = c.args.spot.marks.now in
    let ks = c.args.buffers.now in
    let b = (marked_at x.name ks).buffer in
    let kill = c.args.session.now.kill in
    let u = c.args.undone.now in
    let change = undone_read b.text kill (removed_by u.serial b.items) u in
    let order : u.from ≤ u.from + u.gone = omega arith in
    rw (c.in_ok-behind.ensures.ok kill) (omega (arith, c.in_ok-behind.ensures.end, length_edited_by x.name change ks (mark_is_kept x.name x.point ks c.requires.marks.point) order c.requires.can.within, c.requires.can.within))

pub returns-clause-ok : goal.returns-clause-ok
returns-clause-ok g c =
    let x = c.args.spot.marks.now in
    let b = (marked_at x.name c.args.buffers.now).buffer in
    let u = c.args.undone.now in
    let left = u.finish in
    let removed = removed_by u.serial b.items in
    c.leave.ensures.marks
    ∙ ap (λ (ks : List MarkedBuffer). mark_gone x.name x.top (top_read left.top) (mark_gone x.name x.point (point_read c.in_ok-behind.behind left.point) ks)) (c.in_ok-behind.ensures.ok c.args.session.now.kill)
    ∙ ap (λ (behind : ℕ). mark_gone x.name x.top (top_read left.top) (mark_gone x.name x.point (point_read behind left.point) (edited_by x.name (undone_read b.text c.args.session.now.kill removed u) c.args.buffers.now))) c.in_ok-behind.ensures.end
