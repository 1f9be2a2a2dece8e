use Rattle.std.proofs.Common.{◌∙◌, ap}
use Rattle.mgs_model.specs.Turns.{completed}
use Rattle.mgs_session.specs.Sessions.{prompting}
use Rattle.mgs_world.specs.Worlds.{state_of}
use Rattle.mgs_core.proofs.Prompted.{completed_as}
use Rattle.mgs_core.proofs.typed_byte.complete.Goals as goal

pub returns-clause-state : goal.returns-clause-state
returns-clause-state g c =
    c.hold_completed.ensures.state
    ∙ completed_as c.args.session.now c.args.prompt c.complete-completes.new.self _ c.complete-completes.result c.requires.still c.complete-completes.ensures.question c.complete-completes.ensures.first c.complete-completes.ensures.input
    ∙ ap (completed (state_of (prompting c.args.prompt c.args.session.now).state)) c.completion_for-completion.ensures.value
