use Rattle.std.proofs.Common.{sym, ap, subst, ◌∙◌}
use Rattle.mgs_model.specs.Apply.{change_first}
use Rattle.mgs_model.specs.World.{Buffer}
use Rattle.mgs_buffers.specs.MarkedBuffer.{IsMark, marked_at, marked_named, marked_placed}
use Rattle.mgs_world.specs.Marking.{session_marked}
use Rattle.mgs_world.proofs.Soundness.{mark_is_kept}
use Rattle.mgs_plan.specs.Actions.{CanDo, IsMarked, marked_after, session_acted}
use Rattle.mgs_act.proofs.Marked.{granted_still, mark_after_action, dropped_then, kept_then, mark_then, marks_then, place_after_action, place_reserved, reserved_buffer, within_after}
use Rattle.mgs_act.specs.Performing.{IsCarriedOutBy}
use Rattle.mgs_act.proofs.text_action.carry_out_marked.Goals as goal

pub carry_out-requires-2 : goal.carry_out-requires-2
carry_out-requires-2 g c =
    let x = c.args.spot.marks.now in
    let ks = c.args.buffers.now in
    let ls = c.reserve_mark.new.buffers in
    let mid = c.in_ok-mark.mark in
    let r = c.in_ok-mark.ensures.ok in
    let same = reserved_buffer x.name x.mark mid ks ls r in
    record {
      marks = marks_then x ks ls mid c.requires.marks r;
      place = place_reserved x.name x.mark mid c.args.spot.at ks ls r c.requires.place;
      can = subst (λ (b : Buffer). CanDo b.text b.items c.args.session.now.kill b.serial c.args.action.now) (sym same) c.requires.can;
      granted = granted_still c.args.directory.now ks ls c.args.session.now.user x.name c.args.action.now same c.requires.granted;
    }

pub set_mark-requires : goal.set_mark-requires
set_mark-requires g c =
    let x = c.args.spot.marks.now in
    let ks = c.args.buffers.now in
    let ls = c.reserve_mark.new.buffers in
    let mid = c.in_ok-mark.mark in
    let r = c.in_ok-mark.ensures.ok in
    let b = (marked_at x.name ls).buffer in
    let kill = c.args.session.now.kill in
    let action = c.args.action.now in
    let can = subst (λ (b : Buffer). CanDo b.text b.items kill b.serial action) (sym (reserved_buffer x.name x.mark mid ks ls r)) c.requires.can in
    let mark : IsMark x.name mid c.carry_out-2.new.buffers = rw c.in-Ok.ensures.ok (mark_after_action x mid b.text b.items kill action ls (mark_then x ks ls mid c.requires.marks r) (marks_then x ks ls mid c.requires.marks r)) in
    record {
      kept = mark_is_kept x.name mid c.carry_out-2.new.buffers mark;
      place = rw c.in-Ok.ensures.ok (place_after_action x b.text b.items kill action ls c.args.spot.at (place_reserved x.name x.mark mid c.args.spot.at ks ls r c.requires.place));
      mark = mark;
      within = rw c.in-Ok.ensures.ok (within_after x c.in-Some.position kill action ls (kept_then x ks ls mid c.requires.marks r) can (sym c.mark_of.ensures ∙ c.in-Some.is));
    }

pub give_up_mark-requires : goal.give_up_mark-requires
give_up_mark-requires g c =
    let x = c.args.spot.marks.now in
    let mid = c.in_ok-mark.mark in
    let mark : IsMark x.name mid c.carry_out-2.new.buffers = rw c.in-Err.ensures.err (mark_then x c.args.buffers.now c.reserve_mark.new.buffers mid c.requires.marks c.in_ok-mark.ensures.ok) in
    record { kept = mark_is_kept x.name mid c.carry_out-2.new.buffers mark; mark = mark }

pub returns-in-Ok-clause-ok : goal.returns-in-Ok-clause-ok
returns-in-Ok-clause-ok g c =
    let x = c.args.spot.marks.now in
    let ks = c.args.buffers.now in
    let ls = c.reserve_mark.new.buffers in
    let mid = c.in_ok-mark.mark in
    let r = c.in_ok-mark.ensures.ok in
    let same = reserved_buffer x.name x.mark mid ks ls r in
    let marked : IsMarked x c.in-Some.position c.args.action.now ks c.set_mark.new.buffers c.args.session.now c.set_mark.new.session = record {
      id = mid;
      between = ls;
      reserved = r;
      buffers = c.set_mark.ensures.buffers ∙ ap (change_first (marked_named x.name) (marked_placed mid c.in-Some.position)) (c.in-Ok.ensures.ok ∙ ap (λ (b : Buffer). marked_after x b.text b.items c.args.session.now.kill c.args.action.now ls) same);
      session = c.set_mark.ensures.session ∙ ap (session_marked mid) (c.in-Ok.ensures.acted ∙ ap (λ (b : Buffer). session_acted b.text c.args.action.now c.args.session.now) same);
    } in
    subst (λ m. IsCarriedOutBy m x c.args.action.now ks c.set_mark.new.buffers c.args.session.now c.set_mark.new.session) (sym (sym c.mark_of.ensures ∙ c.in-Some.is)) marked

pub returns-in-Err-clause-err : goal.returns-in-Err-clause-err
returns-in-Err-clause-err g c =
    dropped_then c.args.spot.marks.now c.args.buffers.now c.reserve_mark.new.buffers c.in_ok-mark.mark c.requires.marks c.in_ok-mark.ensures.ok c.carry_out-2.new.buffers c.give_up_mark.new.buffers c.in-Err.ensures.err c.give_up_mark.ensures
