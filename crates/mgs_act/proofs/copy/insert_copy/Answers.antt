use Rattle.std.proofs.Common.{ℕ, List, Option, length, get_or, ◌∙◌, sym, ap, subst}
use Rattle.std.specs.Prelude.{slice_set}
use Rattle.std.proofs.lemmas.Option.{slice_get-get_or}
use Rattle.mgs_laws.specs.Apart.{touched_by}
use Rattle.mgs_model.specs.Apply.{apply}
use Rattle.mgs_model.specs.World.{State}
use Rattle.mgs_buffers.specs.MarkedBuffer.{marked_at}
use Rattle.mgs_session.specs.declared.Session.{Session}
use Rattle.mgs_session.specs.declared.search.Edited.{Edited}
use Rattle.mgs_world.specs.Worlds.{state_at, world_of}
use Rattle.mgs_world.proofs.Soundness.{mark_is_kept}
use Rattle.mgs_world.proofs.WindowMarks.{when_err}
use Rattle.mgs_plan.specs.Following.{edit_told, followed}
use Rattle.mgs_plan.specs.Inserting.{CanPut, insertion_of, put_outcome}
use Rattle.mgs_plan.proofs.Followed.{sound_kept}
use Rattle.mgs_act.proofs.Done.{can_at, got}
use Rattle.mgs_act.proofs.Insertions.{inserted_so, inserted_sound}
use Rattle.mgs_act.proofs.Marked.{dropped_so, marks_at, selected_marks}
use Rattle.mgs_act.proofs.Through.{copy_done}
use Rattle.mgs_act.proofs.copy.insert_copy.Goals as goal

pub copied_text-requires : goal.copied_text-requires
copied_text-requires g c =
    let there = got c.args.sessions.now c.args.at c.requires.within in (c.requires.can there.0 there.1).copy.kept

pub edit_of_insertion-edit-requires : goal.edit_of_insertion-edit-requires
edit_of_insertion-edit-requires g c =
    let ks = c.args.buffers.now in
    let xs = c.args.sessions.now in
    let x = c.args.copying.marks.now in
    let there = got xs c.args.at c.requires.within in
    let can = c.requires.can there.0 there.1 in
    record {
      kept = mark_is_kept x.name x.point ks (selected_marks ks xs c.args.at there.0 x c.requires.sound there.1 can.selected).point;
      can = subst (λ put. CanPut (marked_at x.name ks).buffer put c.args.copying.place) (sym (c.deref.ensures.value ∙ c.in_ok-put.ensures)) can.copy.put;
    }

pub insert_marked-requires : goal.insert_marked-requires
insert_marked-requires g c =
    let x = c.args.copying.marks.now in
    let r = c.index-sessions-at.result in
    let can = can_at c.requires r in
    record {
      marks = marks_at x c.requires r can.selected;
      can = subst (λ put. CanPut (marked_at x.name c.args.buffers.now).buffer put c.args.copying.place) (sym (c.deref-2.ensures.value ∙ c.in_ok-put.ensures)) can.copy.put;
      granted = can.granted;
    }

pub returns-in_err-insert_marked-clause-err : goal.returns-in_err-insert_marked-clause-err
returns-in_err-insert_marked-clause-err g c =
    let xs = c.args.sessions.now in
    let r = c.index-sessions-at.result in
    when_err _ (dropped_so c.args.buffers.now c.insert_marked.new.buffers xs c.args.at (get_or xs c.args.at r) c.insert_marked.new.session (slice_get-get_or xs c.args.at r c.requires.within) c.in_err-insert_marked.ensures.err c.in_err-insert_marked.ensures.same c.requires.sound)

pub returns-clause-sound : goal.returns-clause-sound
returns-clause-sound g c =
    let ks = c.args.buffers.now in
    let xs = c.args.sessions.now in
    let x = c.args.copying.marks.now in
    let r = c.index-sessions-at.result in
    let h : Session = get_or xs c.args.at r in
    let found = slice_get-get_or xs c.args.at r c.requires.within in
    let sel = (can_at c.requires r).selected in
    rw c.follow.ensures (sound_kept x.name c.edit_of_insertion-edit.result c.insert_marked.new.buffers _
    (inserted_sound ks c.insert_marked.new.buffers xs c.args.at c.args.copying.place _ x h c.insert_marked.new.session found c.requires.sound sel (marks_at x c.requires r sel) c.in_ok-insert_marked.ensures.ok))

pub returns-clause-done : goal.returns-clause-done
returns-clause-done g c =
    let d = c.args.directory.now in
    let ks = c.args.buffers.now in
    let xs = c.args.sessions.now in
    let x = c.args.copying.marks.now in
    let h : Session = get_or xs c.args.at c.index-sessions-at.result in
    let found = slice_get-get_or xs c.args.at c.index-sessions-at.result c.requires.within in
    let can = c.requires.can h found in
    let size = length (marked_at x.name ks).buffer.text in
    let same = c.deref-2.ensures.value ∙ sym c.deref.ensures.value in
    let room = subst (λ put. CanPut (marked_at x.name ks).buffer put c.args.copying.place) (sym (c.deref-2.ensures.value ∙ c.in_ok-put.ensures)) can.copy.put in
    copy_done d c.args.at ks _ xs _ x c.args.copying.source.now c.args.copying.place c.touched_by_insertion.result
    (λ id next place.
    ap (λ (ys : List Session). world_of d c.insert_marked.new.buffers ys next)
    (c.follow.ensures
    ∙ ap (λ (o : Option Edited). followed x.name o (slice_set xs c.args.at c.insert_marked.new.session))
    (c.edit_of_insertion-edit.ensures.value ∙ ap (λ (put : List ℕ). edit_told size (insertion_of c.args.copying.place put)) (sym same)))
    ∙ inserted_so ks c.insert_marked.new.buffers xs c.args.at c.args.copying.place _ x h c.insert_marked.new.session found c.requires.sound can.selected (marks_at x c.requires c.index-sessions-at.result can.selected) c.in_ok-insert_marked.ensures.ok d next id place c.requires.within c.requires.fresh room.within
    ∙ ap (λ (put : List ℕ). apply (world_of d ks xs next) id (put_outcome (state_at c.args.at xs) x.name c.args.copying.place put)) (c.deref-2.ensures.value ∙ c.in_ok-put.ensures))
    (λ (state : State). c.touched_by_insertion.ensures state c.args.copying.place ∙ ap (λ (put : List ℕ). touched_by (put_outcome state x.name c.args.copying.place put).effect) (c.deref-3.ensures.value ∙ c.in_ok-put.ensures))
