use Rattle.std.proofs.Common.{refl, ap, []}
use Rattle.mgs_world.specs.Worlds.{idle, state_of}
use Rattle.mgs_plan.specs.Actions.{height_or_none, marks_in}
use Rattle.mgs_plan.specs.declared.given.Given.{Given}
use Rattle.mgs_plan.proofs.Plans.{for_session}
use Rattle.mgs_plan.proofs.on_text.plan_for.Goals as goal

pub returns-clause-value : goal.returns-clause-value
returns-clause-value g c =
    let h = c.args.session.now in
    let f = c.args.found.now in
    let given : Given = record { argument = c.args.argument; kind = h.state.kind; height = c.selected_window.result.height; fill = h.state.fill } in
    for_session c.args.directory.now f.all h.user (marks_in f.name c.args.window_marks.now) given c.args.command [] h.kill c.as_slice.result.now _ c.plan.result (idle (state_of h.state))
    refl c.as_slice.ensures (ap height_or_none c.selected_window.ensures) (c.plan.ensures.value (idle (state_of h.state)))
