use Rattle.std.proofs.Common.{refl}
use Rattle.mgs_world.specs.Worlds.{state_of}
use Rattle.mgs_core.proofs.Turns.{first_replace_turn, first_turn, played_turn, replace_turn, typed_turn}
use Rattle.mgs_core.proofs.turn.next_step.Goals as goal

pub returns-in-Typed-clause-step : goal.returns-in-Typed-clause-step
returns-in-Typed-clause-step g c =
    typed_turn c.args.directory.now c.args.buffers.now c.args.session.now c.next_task.new.session c.step_byte.new.session c.next_task.ensures.rest c.in-Typed.byte c.step_byte.new.before c.step_byte.result c.in-Typed.ensures.next c.step_byte.ensures.step

pub returns-in-Played-clause-step : goal.returns-in-Played-clause-step
returns-in-Played-clause-step g c =
    played_turn c.args.directory.now c.args.buffers.now c.args.session.now c.next_task.new.session c.step_byte-in-Played.new.session c.next_task.ensures.rest c.in-Played.byte c.step_byte-in-Played.new.before c.step_byte-in-Played.result c.in-Played.ensures.next c.step_byte-in-Played.ensures.step

pub returns-in-First-clause-step : goal.returns-in-First-clause-step
returns-in-First-clause-step g c =
    first_turn c.args.directory.now c.args.buffers.now c.args.session.now c.next_task.new.session c.step_first.new.session c.next_task.ensures.rest c.in-First.byte c.step_first.new.before c.step_first.result c.in-First.ensures.next (c.step_first.ensures.step (state_of c.args.session.now.state))

pub returns-in-FirstReplacement-clause-step : goal.returns-in-FirstReplacement-clause-step
returns-in-FirstReplacement-clause-step g c =
    first_replace_turn c.args.directory.now c.args.buffers.now c.args.session.now c.next_task.new.session c.set_kind-in-FirstReplacement.new.session c.next_task.ensures.rest c.requires.fit c.in-FirstReplacement.ensures.next c.set_kind-in-FirstReplacement.ensures

pub returns-in-Replacement-clause-step : goal.returns-in-Replacement-clause-step
returns-in-Replacement-clause-step g c =
    replace_turn c.args.directory.now c.args.buffers.now c.args.session.now c.next_task.new.session c.next_task.new.session c.next_task.ensures.rest c.requires.fit c.in-Replacement.ensures.next refl
