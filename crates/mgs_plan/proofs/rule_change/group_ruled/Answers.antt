use Rattle.std.proofs.Common.{sym, ◌∙◌}
use Rattle.mgs_plan.proofs.Rulings.{group_empty, group_none, group_some}
use Rattle.mgs_plan.proofs.rule_change.group_ruled.Goals as goal

pub returns-then-is_empty-clause-value : goal.returns-then-is_empty-clause-value
returns-then-is_empty-clause-value c = λ ks v stored.
    group_empty c.args.directory.now v.session.state c.args.name c.args.typed.now (sym c.is_empty.ensures ∙ c.if-is_empty.true)

pub returns-in-Some-clause-value : goal.returns-in-Some-clause-value
returns-in-Some-clause-value c = λ ks v stored.
    group_some c.args.directory.now v.session.state c.args.name c.in-Some.group c.args.typed.now (sym c.is_empty.ensures ∙ c.if-is_empty.false) (sym c.in-Some.is ∙ c.group_typed.ensures)

pub returns-in-None-clause-value : goal.returns-in-None-clause-value
returns-in-None-clause-value c = λ ks v stored.
    group_none c.args.directory.now v.session.state c.args.name c.args.typed.now (sym c.is_empty.ensures ∙ c.if-is_empty.false) (sym c.in-None.is ∙ c.group_typed.ensures)
