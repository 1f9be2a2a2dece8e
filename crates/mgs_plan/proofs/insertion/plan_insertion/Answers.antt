use Rattle.std.proofs.Common.{◌≡◌, ℕ, List, ap, subst, sym, ◌∙◌}
use Rattle.std.specs.Prelude.{IfSome}
use Rattle.mgs_model.specs.declared.echo_text.Message.TheVariants.{Says}
use Rattle.mgs_model.specs.declared.echo_text.Notice.TheVariants.{NoSuchBuffer}
use Rattle.mgs_plan.specs.Actions.{AreMarks}
use Rattle.mgs_plan.specs.Deciding.{outcome_read}
use Rattle.mgs_plan.specs.Inserting.{copy_outcome, outcome_from}
use Rattle.mgs_plan.specs.declared.outcome.Outcome.TheVariants.{Fails}
use Rattle.mgs_world.proofs.Soundness.{mark_is_kept}
use Rattle.mgs_plan.proofs.Copies.{insert_planned, insert_unshown}
use Rattle.mgs_plan.proofs.insertion.plan_insertion.Goals as goal

pub returns-in_default-clause-value : goal.returns-in_default-clause-value
returns-in_default-clause-value g c = λ n xs next.
    insert_unshown c.args.directory.now c.args.buffers.now xs next n c.args.session.now c.args.typed.now (sym c.selected_window_marks.ensures ∙ c.in_default.is)

pub copied-requires-clause-marks : goal.copied-requires-clause-marks
copied-requires-clause-marks g c = subst (λ s. IfSome s (AreMarks c.args.buffers.now)) (sym c.selected_window_marks.ensures ∙ c.in-Some.is) c.requires.marks

pub copied-requires-clause-target : goal.copied-requires-clause-target
copied-requires-clause-target g c =
    let x = c.in-Some.window_marks in
    mark_is_kept x.name x.point c.args.buffers.now (copied-requires-clause-marks g c).point

pub returns-in-None-clause-value : goal.returns-in-None-clause-value
returns-in-None-clause-value g c = λ n xs next.
    let x = c.in-Some.window_marks in
    let d = c.args.directory.now in
    let ks = c.args.buffers.now in
    let h = c.args.session.now in
    let sel = sym c.selected_window_marks.ensures ∙ c.in-Some.is in
    insert_planned d ks xs next n h c.args.typed.now x (Fails (Says NoSuchBuffer)) sel (subst (λ s. IfSome s (AreMarks ks)) sel c.requires.marks)
    (λ v stored. ap (outcome_from d ks v.session.state h.user c.args.typed.now x) (sym c.in-None.ensures.there))

pub returns-in-Some-name_typed-clause-value : goal.returns-in-Some-name_typed-clause-value
returns-in-Some-name_typed-clause-value g c = λ n xs next.
    let x = c.in-Some.window_marks in
    let d = c.args.directory.now in
    let ks = c.args.buffers.now in
    let h = c.args.session.now in
    let typed = c.args.typed.now in
    let sel = sym c.selected_window_marks.ensures ∙ c.in-Some.is in
    insert_planned d ks xs next n h typed x c.copied.result sel (subst (λ s. IfSome s (AreMarks ks)) sel c.requires.marks)
    (λ v stored. ap (outcome_from d ks v.session.state h.user typed x) (sym c.in-Some-name_typed.ensures.there)
    ∙ subst (λ (m : List ℕ). copy_outcome d ks v.session.state h.user m x ≡ outcome_read ks v c.copied.result stored) c.in-Some-name_typed.ensures.value (c.copied.ensures.value v stored))
