use Rattle.std.proofs.Common.{ℕ, List, Option, length, get_or, ◌∙◌, sym, ap}
use Rattle.std.specs.Prelude.{slice_set}
use Rattle.std.proofs.lemmas.Option.{slice_get-get_or}
use Rattle.mgs_session.specs.declared.Session.{Session}
use Rattle.mgs_session.specs.declared.search.Edited.{Edited}
use Rattle.mgs_world.specs.Worlds.{state_of, world_of}
use Rattle.mgs_world.proofs.Soundness.{mark_is_kept}
use Rattle.mgs_world.proofs.WindowMarks.{when_err}
use Rattle.mgs_plan.specs.Following.{edit_through, followed}
use Rattle.mgs_plan.specs.Actions.{kill_or_none}
use Rattle.mgs_plan.proofs.Followed.{sound_kept}
use Rattle.mgs_act.proofs.Done.{can_at, here_is}
use Rattle.mgs_act.proofs.Marked.{carried_so, carried_sound, dropped_so, marks_at}
use Rattle.mgs_act.proofs.Through.{through_done, through_takes}
use Rattle.mgs_act.proofs.text_action.perform.Goals as goal

pub edit_of-edit-requires : goal.edit_of-edit-requires
edit_of-edit-requires g c =
    let x = c.args.spot.marks.now in
    let r = c.index-sessions-at.result in
    let can = can_at c.requires r in
    record {
      kept = mark_is_kept x.name x.point c.args.buffers.now (marks_at x c.requires r can.selected).point;
      place = can.stands;
      can = rw c.as_slice-kill.ensures can.can;
    }

pub carry_out_marked-requires : goal.carry_out_marked-requires
carry_out_marked-requires g c =
    let r = c.index-sessions-at-2.result in
    let can = can_at c.requires r in
    record {
      marks = marks_at c.args.spot.marks.now c.requires r can.selected;
      place = can.stands;
      can = can.can;
      granted = can.granted;
    }

pub returns-in_err-carry_out_marked-clause-err : goal.returns-in_err-carry_out_marked-clause-err
returns-in_err-carry_out_marked-clause-err g c =
    let xs = c.args.sessions.now in
    let r = c.index-sessions-at-2.result in
    when_err c.from_residual.result (dropped_so c.args.buffers.now c.carry_out_marked.new.buffers xs c.args.at (get_or xs c.args.at r) c.carry_out_marked.new.session (slice_get-get_or xs c.args.at r c.requires.within) c.in_err-carry_out_marked.ensures.err c.in_err-carry_out_marked.ensures.same c.requires.sound)

pub returns-in_err-carry_out_marked-clause-may : goal.returns-in_err-carry_out_marked-clause-may
returns-in_err-carry_out_marked-clause-may g c =
    when_err c.from_residual.result (through_takes c.args.at c.args.buffers.now c.args.sessions.now c.index-sessions-at-2.result c.args.spot.marks.now c.args.spot.at c.args.action.now c.requires.within c.in_err-carry_out_marked.ensures.may)

pub returns-clause-sound : goal.returns-clause-sound
returns-clause-sound g c =
    let ks = c.args.buffers.now in
    let xs = c.args.sessions.now in
    let x = c.args.spot.marks.now in
    let r = c.index-sessions-at-2.result in
    let sel = (can_at c.requires r).selected in
    rw c.follow.ensures (sound_kept x.name c.edit_of-edit.result c.carry_out_marked.new.buffers _
    (carried_sound ks c.carry_out_marked.new.buffers xs c.args.at x (get_or xs c.args.at r) c.carry_out_marked.new.session c.args.action.now c.requires.sound (slice_get-get_or xs c.args.at r c.requires.within) sel (marks_at x c.requires r sel) c.in_ok-carry_out_marked.ensures.ok))

pub returns-clause-done : goal.returns-clause-done
returns-clause-done g c =
    let d = c.args.directory.now in
    let ks = c.args.buffers.now in
    let xs = c.args.sessions.now in
    let x = c.args.spot.marks.now in
    let r = c.index-sessions-at.result in
    let h : Session = get_or xs c.args.at c.index-sessions-at-2.result in
    let found = slice_get-get_or xs c.args.at c.index-sessions-at-2.result c.requires.within in
    let can = c.requires.can h found in
    through_done d c.args.at ks _ xs _ x c.args.spot.at c.args.action.now c.touched_by-touched.result
    (λ id next place.
    ap (λ (ys : List Session). world_of d c.carry_out_marked.new.buffers ys next)
    (c.follow.ensures
    ∙ ap (λ (o : Option Edited). followed x.name o (slice_set xs c.args.at c.carry_out_marked.new.session))
    (c.edit_of-edit.ensures.value ∙ ap (λ (k : List ℕ). edit_through x ks k c.args.action.now) (c.as_slice-kill.ensures ∙ sym (ap kill_or_none (slice_get-get_or xs c.args.at r c.requires.within)))))
    ∙ carried_so d ks c.carry_out_marked.new.buffers xs next id c.args.at x h c.carry_out_marked.new.session c.args.action.now c.requires.sound place c.requires.within found can.selected c.requires.fresh can.can c.in_ok-carry_out_marked.ensures.ok)
    (λ h there. c.touched_by-touched.ensures (state_of h.state) ks h.kill
    (sym (ap (λ (k : List ℕ). length k) c.as_slice-kill.ensures ∙ ap (λ (y : Session). length y.kill) (here_is xs c.args.at r h c.requires.within there)))
    (c.requires.can h there).can)
