use Rattle.mgs_plan.proofs.Answered.{of_named}
use Rattle.mgs_plan.proofs.by_name.plan_by_name.Goals as goal

pub returns-in-SwitchToBuffer-clause-value : goal.returns-in-SwitchToBuffer-clause-value
returns-in-SwitchToBuffer-clause-value g c = of_named c.args.directory.now c.args.buffers.now c.args.session.now c.args.typed.now c.plan_switch.result c.in-SwitchToBuffer.is c.plan_switch.ensures.value

pub returns-in-KillBuffer-clause-value : goal.returns-in-KillBuffer-clause-value
returns-in-KillBuffer-clause-value g c = of_named c.args.directory.now c.args.buffers.now c.args.session.now c.args.typed.now c.plan_kill.result c.in-KillBuffer.is c.plan_kill.ensures.value

pub returns-in-InsertBuffer-clause-value : goal.returns-in-InsertBuffer-clause-value
returns-in-InsertBuffer-clause-value g c = of_named c.args.directory.now c.args.buffers.now c.args.session.now c.args.typed.now c.plan_insertion.result c.in-InsertBuffer.is c.plan_insertion.ensures.value
