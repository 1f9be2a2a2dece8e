use Rattle.mgs_core.proofs.Stepped.{key_command, key_kept, key_unbound}
use Rattle.mgs_core.proofs.key_byte.step_key.Goals as goal

pub returns-in-Run-clause-step : goal.returns-in-Run-clause-step
returns-in-Run-clause-step c directory ks =
    key_command directory ks c.args.session.now c.rest-in-Run.new.session c.step_command.new.session c.args.byte c.feed.new.self c.in-Run.command c.in-Run.argument c.step_command.result
    c.requires.still c.requires.plain c.requires.alone c.in-Run.ensures.read c.in-Run.ensures.bound c.rest-in-Run.ensures c.step_command.ensures.step

pub returns-in-Pending-clause-step : goal.returns-in-Pending-clause-step
returns-in-Pending-clause-step c directory ks =
    key_kept directory ks c.args.session.now c.hold.new.session c.args.byte c.feed.new.self
    c.requires.still c.requires.plain c.requires.alone c.in-Pending.ensures.read c.hold.ensures

pub returns-in-Unbound-clause-step : goal.returns-in-Unbound-clause-step
returns-in-Unbound-clause-step c directory ks =
    key_unbound directory ks c.args.session.now c.rest.new.session c.args.byte c.feed.new.self
    c.requires.still c.requires.plain c.requires.alone c.in-Unbound.ensures.read c.rest.ensures
