use Rattle.std.proofs.Common.{◌∙◌, ap, sym}
use Rattle.mgs_session.specs.Sessions.{unbound, unprompted}
use Rattle.mgs_core.specs.declared.key_byte.ByteStep.TheVariants.{Kept}
use Rattle.mgs_core.proofs.Prompted.{answers, completes, goes_on, quits, still_step, unbinds}
use Rattle.mgs_core.proofs.typed_byte.step_prompt.Goals as goal

pub returns-in-GoesOn-clause-step : goal.returns-in-GoesOn-clause-step
returns-in-GoesOn-clause-step g c =
    still_step c.args.directory.now c.args.buffers.now c.args.session.now c.hold_prompt.new.session c.args.byte c.args.before.now Kept c.requires.still
    (goes_on c.args.directory.now c.args.buffers.now c.args.session.now c.take_prompt.new.session c.hold_prompt.new.session c.in-Some.prompt c.feed.new.self c.args.byte c.requires.alone
    (sym c.take_prompt.ensures.prompt ∙ c.in-Some.is) c.feed.ensures.question c.feed.ensures.first c.in-GoesOn.ensures.turn (c.take_prompt.ensures.rest ∙ ap unprompted c.requires.still) c.hold_prompt.ensures)

pub returns-in-Completes-clause-step : goal.returns-in-Completes-clause-step
returns-in-Completes-clause-step g c =
    still_step c.args.directory.now c.args.buffers.now c.args.session.now c.complete.new.session c.args.byte c.args.before.now Kept c.requires.still
    (completes c.args.directory.now c.args.buffers.now c.args.session.now c.take_prompt.new.session c.complete.new.session c.in-Some.prompt c.feed.new.self c.args.byte c.requires.alone
    (sym c.take_prompt.ensures.prompt ∙ c.in-Some.is) c.feed.ensures.question c.feed.ensures.first c.in-Completes.ensures.turn (c.take_prompt.ensures.rest ∙ ap unprompted c.requires.still) c.complete.ensures.state c.complete.ensures.rest)

pub returns-in-Quit-clause-step : goal.returns-in-Quit-clause-step
returns-in-Quit-clause-step g c =
    still_step c.args.directory.now c.args.buffers.now c.args.session.now c.fail.new.session c.args.byte c.args.before.now Kept c.requires.still
    (quits c.args.directory.now c.args.buffers.now c.args.session.now c.take_prompt.new.session c.fail.new.session c.in-Some.prompt c.feed.new.self c.args.byte
    (sym c.take_prompt.ensures.prompt ∙ c.in-Some.is) c.feed.ensures.question c.feed.ensures.first c.in-Quit.ensures.turn (c.take_prompt.ensures.rest ∙ ap unprompted c.requires.still) c.fail.ensures)

pub returns-in-Unbound-clause-step : goal.returns-in-Unbound-clause-step
returns-in-Unbound-clause-step g c =
    still_step c.args.directory.now c.args.buffers.now c.args.session.now c.tell_unbound.new.session c.args.byte c.args.before.now Kept c.requires.still
    (unbinds c.args.directory.now c.args.buffers.now c.args.session.now c.take_prompt.new.session c.tell_unbound.new.session c.in-Some.prompt c.feed.new.self c.args.byte
    (sym c.take_prompt.ensures.prompt ∙ c.in-Some.is) c.feed.ensures.question c.feed.ensures.first (c.feed.ensures.unbound c.in-Unbound.is) c.in-Unbound.ensures.turn (c.take_prompt.ensures.rest ∙ ap unprompted c.requires.still) (c.tell_unbound.ensures ∙ ap unbound c.hold_prompt-in-Unbound.ensures))

pub returns-in-Answered-clause-step : goal.returns-in-Answered-clause-step
returns-in-Answered-clause-step g c =
    still_step c.args.directory.now c.args.buffers.now c.args.session.now c.step_answer.new.session c.args.byte c.step_answer.new.before c.step_answer.result c.requires.still
    (answers c.args.directory.now c.args.buffers.now c.args.session.now c.take_prompt.new.session c.step_answer.new.session c.in-Some.prompt c.feed.new.self c.args.byte c.step_answer.new.before c.step_answer.result c.requires.alone
    (sym c.take_prompt.ensures.prompt ∙ c.in-Some.is) (c.feed.ensures.answered c.in-Answered.is) c.in-Answered.ensures.turn (c.take_prompt.ensures.rest ∙ ap unprompted c.requires.still) c.step_answer.ensures.first c.step_answer.ensures.step)
