use Rattle.std.proofs.Common.{◌∙◌, refl, subst, sym}
use Rattle.std.specs.Prelude.{IfSome}
use Rattle.mgs_plan.specs.Actions.{AreMarks}
use Rattle.mgs_world.proofs.Soundness.{mark_is_kept}
use Rattle.mgs_plan.proofs.Saves.{save_planned, save_refused, save_unshown}
use Rattle.mgs_plan.proofs.save.plan_save.Goals as goal

pub refusal-requires : goal.refusal-requires
refusal-requires g c =
    let x = c.in-Some.window_marks in
    mark_is_kept x.name x.point c.args.buffers.now (subst (λ s. IfSome s (AreMarks c.args.buffers.now)) (sym c.selected_window_marks.ensures ∙ c.in-Some.is) c.requires.marks).point

pub returns-in_default-clause-value : goal.returns-in_default-clause-value
returns-in_default-clause-value g c = λ n xs next.
    save_unshown c.args.directory.now c.args.buffers.now xs next n c.args.session.now (sym c.selected_window_marks.ensures ∙ c.in_default.is)

pub returns-in-Some-refusal-clause-value : goal.returns-in-Some-refusal-clause-value
returns-in-Some-refusal-clause-value g c = λ n xs next.
    save_refused c.args.directory.now c.args.buffers.now xs next n c.args.session.now c.in-Some.window_marks c.is_playing-is_playing.result (sym c.selected_window_marks.ensures ∙ c.in-Some.is) (mark_is_kept c.in-Some.window_marks.name c.in-Some.window_marks.point c.args.buffers.now (subst (λ s. IfSome s (AreMarks c.args.buffers.now)) (sym c.selected_window_marks.ensures ∙ c.in-Some.is) c.requires.marks).point) c.is_playing-is_playing.ensures c.in-Some-refusal.message c.in-Some-refusal.ensures.refused

pub returns-in-None-clause-value : goal.returns-in-None-clause-value
returns-in-None-clause-value g c = λ n xs next.
    save_planned c.args.directory.now c.args.buffers.now xs next n c.args.session.now c.in-Some.window_marks c.is_playing-is_playing.result (sym c.selected_window_marks.ensures ∙ c.in-Some.is) (mark_is_kept c.in-Some.window_marks.name c.in-Some.window_marks.point c.args.buffers.now (subst (λ s. IfSome s (AreMarks c.args.buffers.now)) (sym c.selected_window_marks.ensures ∙ c.in-Some.is) c.requires.marks).point) c.is_playing-is_playing.ensures (c.in-None.ensures.none refl)
