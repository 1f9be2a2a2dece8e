use Rattle.std.proofs.Common.{subst, sym, ◌∙◌}
use Rattle.std.specs.Prelude.{IfSome}
use Rattle.mgs_world.specs.Worlds.{state_of}
use Rattle.mgs_plan.specs.Searching.{sought}
use Rattle.mgs_plan.specs.Actions.{AreMarks}
use Rattle.mgs_world.proofs.Soundness.{mark_is_kept}
use Rattle.mgs_plan.proofs.Decided.{search_planned, search_unshown}
use Rattle.mgs_plan.proofs.typed_search.plan_search.Goals as goal

pub returns-in_default-clause-value : goal.returns-in_default-clause-value
returns-in_default-clause-value g c = λ n xs next.
    search_unshown c.args.directory.now c.args.buffers.now xs next c.args.session.now c.args.direction n (sought (state_of c.args.session.now.state).pattern c.args.typed.now) (sym c.selected_window_marks.ensures ∙ c.in_default.is)

pub plan_meant-action-requires : goal.plan_meant-action-requires
plan_meant-action-requires g c = subst (λ s. IfSome s (AreMarks c.args.buffers.now)) (sym c.selected_window_marks.ensures ∙ c.in-Some.is) c.requires.marks

pub place_of-place-requires : goal.place_of-place-requires
place_of-place-requires g c =
    let x = c.in-Some.window_marks in
    let marks = subst (λ s. IfSome s (AreMarks c.args.buffers.now)) (sym c.selected_window_marks.ensures ∙ c.in-Some.is) c.requires.marks in
    mark_is_kept x.name x.point c.args.buffers.now marks.point

pub returns-clause-value : goal.returns-clause-value
returns-clause-value g c = λ n xs next.
    let sel = sym c.selected_window_marks.ensures ∙ c.in-Some.is in
    search_planned c.args.directory.now c.args.buffers.now xs next c.args.session.now c.args.direction n (sought (state_of c.args.session.now.state).pattern c.args.typed.now) c.in-Some.window_marks c.place_of-place.result c.plan_meant-action.result sel
    (subst (λ s. IfSome s (AreMarks c.args.buffers.now)) sel c.requires.marks) c.requires.fresh c.plan_meant-action.ensures.value

pub returns-clause-can : goal.returns-clause-can
returns-clause-can g c = record {
  selected = sym c.selected_window_marks.ensures ∙ c.in-Some.is;
  stands = c.place_of-place.ensures.value;
  can = c.plan_meant-action.ensures.can c.args.session.now.kill;
  granted = c.plan_meant-action.ensures.granted;
}
