use Rattle.std.proofs.Common.{sym}
use Rattle.mgs_plan.proofs.Answered.{of_command}
use Rattle.mgs_plan.proofs.answer.plan_answer.Goals as goal

pub returns-clause-value : goal.returns-clause-value
returns-clause-value g c = of_command c.args.directory.now c.args.buffers.now c.args.session.now c.args.argument c.args.typed.now c.plan_typed.result (sym c.asking-command.ensures.command) c.plan_typed.ensures.value
