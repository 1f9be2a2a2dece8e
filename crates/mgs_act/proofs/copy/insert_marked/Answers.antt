use Rattle.std.proofs.Common.{length, sym, ap, subst, ◌∙◌}
use Rattle.mgs_model.specs.Access.{decision}
use Rattle.mgs_plan.specs.Actions.{insertion_mask}
use Rattle.mgs_model.specs.World.{Buffer}
use Rattle.mgs_buffers.specs.MarkedBuffer.{IsMark}
use Rattle.mgs_world.proofs.Soundness.{mark_is_kept}
use Rattle.mgs_plan.specs.Inserting.{CanPut, insertion_of}
use Rattle.mgs_plan.proofs.Leaving.{marks_edited_by, place_edited_by}
use Rattle.mgs_act.proofs.Insertions.{left_there, length_inserted, mark_inserted, place_inserted}
use Rattle.mgs_act.proofs.Marked.{dropped_then, kept_then, mark_then, marks_then, place_left, place_reserved, reserved_buffer}
use Rattle.mgs_act.proofs.copy.insert_marked.Goals as goal

pub put_in-requires : goal.put_in-requires
put_in-requires g c =
    let x = c.args.window_marks.now in
    let ks = c.args.buffers.now in
    let ls = c.reserve_mark.new.buffers in
    let mid = c.in_ok-mark.mark in
    let r = c.in_ok-mark.ensures.ok in
    let same = reserved_buffer x.name x.mark mid ks ls r in
    record {
      kept = kept_then x ks ls mid c.requires.marks r;
      there = place_reserved x.name x.mark mid c.place_of-at.result ks ls r c.place_of-at.ensures.value;
      granted = ap (λ (b : Buffer). decision c.args.directory.now b.owners c.args.session.now.user b.entries (insertion_mask c.args.place (length b.text))) same ∙ c.requires.granted;
      can = subst (λ (b : Buffer). CanPut b c.args.put.now c.args.place) (sym same) c.requires.can;
    }

pub leave-requires-clause-marks : goal.leave-requires-clause-marks
leave-requires-clause-marks g c =
    let x = c.args.window_marks.now in
    let ls = c.reserve_mark.new.buffers in
    rw c.in-Ok.ensures.ok (marks_edited_by (insertion_of c.args.place c.args.put.now) ls x (marks_then x c.args.buffers.now ls c.in_ok-mark.mark c.requires.marks c.in_ok-mark.ensures.ok))

pub leave-requires-clause-place : goal.leave-requires-clause-place
leave-requires-clause-place g c =
    let x = c.args.window_marks.now in
    let ls = c.reserve_mark.new.buffers in
    rw c.in-Ok.ensures.ok (place_edited_by x.name (insertion_of c.args.place c.args.put.now) ls c.place_of-at.result
    (place_reserved x.name x.mark c.in_ok-mark.mark c.place_of-at.result c.args.buffers.now ls c.in_ok-mark.ensures.ok c.place_of-at.ensures.value))

pub leave-requires-clause-behind : goal.leave-requires-clause-behind
leave-requires-clause-behind g c =
    let x = c.args.window_marks.now in
    let ks = c.args.buffers.now in
    let ls = c.reserve_mark.new.buffers in
    let can = subst (λ (b : Buffer). CanPut b c.args.put.now c.args.place) (sym (reserved_buffer x.name x.mark c.in_ok-mark.mark ks ls c.in_ok-mark.ensures.ok)) c.requires.can in
    rw c.in-Ok.ensures.ok (length_inserted x.name c.args.place c.args.put.now ls (kept_then x ks ls c.in_ok-mark.mark c.requires.marks c.in_ok-mark.ensures.ok) can.within)

pub set_mark-requires : goal.set_mark-requires
set_mark-requires g c =
    let x = c.args.window_marks.now in
    let ks = c.args.buffers.now in
    let ls = c.reserve_mark.new.buffers in
    let mid = c.in_ok-mark.mark in
    let r = c.in_ok-mark.ensures.ok in
    let at = c.place_of-at.result in
    let place = c.args.place in
    let put = c.args.put.now in
    let change = insertion_of place put in
    let left = left_there x place put c.leaving.result ls c.put_in.new.buffers c.leave.new.buffers c.leaving.ensures c.in-Ok.ensures.ok c.leave.ensures.marks in
    let can = subst (λ (b : Buffer). CanPut b put place) (sym (reserved_buffer x.name x.mark mid ks ls r)) c.requires.can in
    let mark : IsMark x.name mid c.leave.new.buffers = rw left (mark_inserted x mid place put ls (mark_then x ks ls mid c.requires.marks r) (marks_then x ks ls mid c.requires.marks r)) in
    record {
      kept = mark_is_kept x.name mid c.leave.new.buffers mark;
      place = rw left (place_left x change change.finish ls at (place_reserved x.name x.mark mid at ks ls r c.place_of-at.ensures.value));
      mark = mark;
      within = rw left (place_inserted x place put ls (kept_then x ks ls mid c.requires.marks r) can.within);
    }

pub give_up_mark-requires : goal.give_up_mark-requires
give_up_mark-requires g c =
    let x = c.args.window_marks.now in
    let mid = c.in_ok-mark.mark in
    let mark : IsMark x.name mid c.put_in.new.buffers = rw c.in-Err.ensures.err (mark_then x c.args.buffers.now c.reserve_mark.new.buffers mid c.requires.marks c.in_ok-mark.ensures.ok) in
    record { kept = mark_is_kept x.name mid c.put_in.new.buffers mark; mark = mark }

pub returns-in-Err-clause-err : goal.returns-in-Err-clause-err
returns-in-Err-clause-err g c =
    dropped_then c.args.window_marks.now c.args.buffers.now c.reserve_mark.new.buffers c.in_ok-mark.mark c.requires.marks c.in_ok-mark.ensures.ok c.put_in.new.buffers c.give_up_mark.new.buffers c.in-Err.ensures.err c.give_up_mark.ensures
