use Rattle.std.proofs.Common.{refl}
use Rattle.mgs_core.proofs.Turns.{first_acts, first_kept, first_other}
use Rattle.mgs_core.proofs.turn.step_first.Goals as goal

pub returns-in-Kept-clause-step : goal.returns-in-Kept-clause-step
returns-in-Kept-clause-step g c state =
    first_kept c.args.directory.now c.args.buffers.now state c.args.session.now c.step_byte-step.new.session _ c.args.byte c.step_byte-step.new.before c.requires.plays c.requires.all c.begin_again.new.self c.in-Kept.ensures.step c.begin_again.ensures refl

pub returns-in-Acts-clause-step : goal.returns-in-Acts-clause-step
returns-in-Acts-clause-step g c state =
    first_acts c.args.directory.now c.args.buffers.now state c.args.session.now c.step_byte-step.new.session c.set_kind.new.session c.args.byte c.step_byte-step.new.before c.requires.plays c.requires.all c.in-Acts.byte_act c.in-Acts.ensures.step c.set_kind.ensures

pub returns-in_default-clause-step : goal.returns-in_default-clause-step
returns-in_default-clause-step g c state =
    first_other c.args.directory.now c.args.buffers.now state c.args.session.now c.step_byte-step.new.session c.step_byte-step.new.session c.args.byte c.step_byte-step.new.before c.requires.plays c.requires.all c.step_byte-step.result
    c.in_default.not-Kept c.in_default.not-Acts c.step_byte-step.ensures.step
