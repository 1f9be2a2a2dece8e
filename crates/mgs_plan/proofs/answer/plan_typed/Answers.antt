use Rattle.std.proofs.Common.{[], ap, sym, ◌∙◌}
use Rattle.mgs_model.specs.Outcome.{Run}
use Rattle.mgs_model.specs.Acts.{outcome}
use Rattle.mgs_model.specs.declared.session.Command.TheVariants.{Move, Seek}
use Rattle.mgs_model.specs.declared.session.Motion.TheVariants.{GoToLine}
use Rattle.mgs_plan.proofs.Answered.{of_command}
use Rattle.mgs_plan.proofs.Lines.{line_same}
use Rattle.mgs_plan.specs.Deciding.{view_at}
use Rattle.mgs_plan.proofs.answer.plan_typed.Goals as goal

pub returns-in-Named-clause-value : goal.returns-in-Named-clause-value
returns-in-Named-clause-value g c = of_command c.args.directory.now c.args.buffers.now c.args.session.now c.args.argument c.args.typed.now c.plan_by_name.result c.in-Named.is (c.plan_by_name.ensures.value c.args.argument)

pub returns-in-Entries-clause-value : goal.returns-in-Entries-clause-value
returns-in-Entries-clause-value g c = of_command c.args.directory.now c.args.buffers.now c.args.session.now c.args.argument c.args.typed.now c.plan_rule.result c.in-Entries.is c.plan_rule.ensures.value

pub returns-in-SetOwner-clause-value : goal.returns-in-SetOwner-clause-value
returns-in-SetOwner-clause-value g c = of_command c.args.directory.now c.args.buffers.now c.args.session.now c.args.argument c.args.typed.now c.plan_rule-in-SetOwner.result c.in-SetOwner.is c.plan_rule-in-SetOwner.ensures.value

pub returns-in-SetGroup-clause-value : goal.returns-in-SetGroup-clause-value
returns-in-SetGroup-clause-value g c = of_command c.args.directory.now c.args.buffers.now c.args.session.now c.args.argument c.args.typed.now c.plan_rule-in-SetGroup.result c.in-SetGroup.is c.plan_rule-in-SetGroup.ensures.value

pub returns-in-GoToLine-clause-value : goal.returns-in-GoToLine-clause-value
returns-in-GoToLine-clause-value g c =
    of_command c.args.directory.now c.args.buffers.now c.args.session.now c.args.argument c.args.typed.now c.plan_text.result (c.in-Move.is ∙ ap Move c.in-GoToLine.is)
    (λ xs next stored. line_same (view_at c.args.directory.now c.args.buffers.now xs next c.args.session.now) c.args.argument c.args.typed.now stored
    ∙ ap (λ m. outcome (view_at c.args.directory.now c.args.buffers.now xs next c.args.session.now) (Run (Move GoToLine) m []) stored) (sym c.line_wanted-line.ensures)
    ∙ c.plan_text.ensures.value xs next stored)

pub returns-in-SearchFor-clause-value : goal.returns-in-SearchFor-clause-value
returns-in-SearchFor-clause-value g c = of_command c.args.directory.now c.args.buffers.now c.args.session.now c.args.argument c.args.typed.now c.plan_search.result (c.in-Seek.is ∙ ap Seek c.in-SearchFor.is) (c.plan_search.ensures.value c.args.argument)
