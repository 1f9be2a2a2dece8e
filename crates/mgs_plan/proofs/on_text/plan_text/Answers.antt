use Rattle.std.proofs.Common.{[], ap, subst, sym, ◌∙◌}
use Rattle.std.specs.Prelude.{IfSome}
use Rattle.std.specs.List.{position_or_len}
use Rattle.mgs_buffers.specs.Found.{Named}
use Rattle.mgs_buffers.specs.MarkedBuffer.{marked_named}
use Rattle.mgs_plan.specs.Actions.{AreMarks, CanDoIn, IsActionOf, marks_in}
use Rattle.mgs_plan.specs.Deciding.{IsActionGranted}
use Rattle.mgs_plan.proofs.Decided.{text_planned, text_unshown}
use Rattle.mgs_world.proofs.Soundness.{mark_is_kept}
use Rattle.mgs_plan.proofs.on_text.plan_text.Goals as goal

pub returns-in_default-clause-value : goal.returns-in_default-clause-value
returns-in_default-clause-value g c = λ xs next.
    text_unshown c.args.directory.now c.args.buffers.now xs next c.args.session.now c.args.command c.args.argument [] c.requires.here c.plan_rows.result (sym c.selected_window_marks.ensures ∙ c.in_default.is) c.plan_rows.ensures.value

pub find-found-requires : goal.find-found-requires
find-found-requires g c =
    let x = c.in-Some.window_marks in
    let marks = subst (λ s. IfSome s (AreMarks c.args.buffers.now)) (sym c.selected_window_marks.ensures ∙ c.in-Some.is) c.requires.marks in
    mark_is_kept x.name x.point c.args.buffers.now marks.point

pub plan_for-action-requires-clause-marks : goal.plan_for-action-requires-clause-marks
plan_for-action-requires-clause-marks g c =
    subst (λ (f : Named). AreMarks f.all (marks_in f.name c.in-Some.window_marks)) (sym c.find-found.ensures)
    (subst (λ s. IfSome s (AreMarks c.args.buffers.now)) (sym c.selected_window_marks.ensures ∙ c.in-Some.is) c.requires.marks)

pub returns-clause-value : goal.returns-clause-value
returns-clause-value g c = λ xs next.
    let x = c.in-Some.window_marks in
    let sel = sym c.selected_window_marks.ensures ∙ c.in-Some.is in
    text_planned c.args.directory.now c.args.buffers.now xs next c.args.session.now c.args.command c.args.argument [] c.requires.here x c.place.result c.plan_for-action.result sel
    (subst (λ s. IfSome s (AreMarks c.args.buffers.now)) sel c.requires.marks) c.requires.fresh
    (subst (λ (f : Named). IsActionOf c.args.directory.now f.all c.args.session.now (marks_in f.name x) c.args.command c.args.argument [] c.plan_for-action.result) c.find-found.ensures c.plan_for-action.ensures.value)

pub returns-in_default-clause-can : goal.returns-in_default-clause-can
returns-in_default-clause-can g c = c.plan_rows.ensures.can c.args.directory.now c.args.buffers.now (sym c.selected_window_marks.ensures ∙ c.in_default.is)

pub returns-clause-can : goal.returns-clause-can
returns-clause-can g c = record {
  selected = sym c.selected_window_marks.ensures ∙ c.in-Some.is;
  stands = c.place.ensures ∙ ap (λ (f : Named). position_or_len (marked_named f.name) f.all) c.find-found.ensures;
  can = subst (λ (f : Named). CanDoIn f.all f.name c.args.session.now.kill c.plan_for-action.result) c.find-found.ensures c.plan_for-action.ensures.can;
  granted = subst (λ (f : Named). IsActionGranted c.args.directory.now f.all c.args.session.now.user f.name c.plan_for-action.result) c.find-found.ensures c.plan_for-action.ensures.granted;
}
