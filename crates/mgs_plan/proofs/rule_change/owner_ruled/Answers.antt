use Rattle.std.proofs.Common.{sym, ◌∙◌}
use Rattle.mgs_plan.proofs.Rulings.{owner_none, owner_some}
use Rattle.mgs_plan.proofs.rule_change.owner_ruled.Goals as goal

pub returns-in-Some-clause-value : goal.returns-in-Some-clause-value
returns-in-Some-clause-value c = λ ks v stored.
    owner_some c.args.directory.now v.session.state c.args.name c.in-Some.owner c.args.typed.now (sym c.in-Some.is ∙ c.user_typed.ensures)

pub returns-in-None-clause-value : goal.returns-in-None-clause-value
returns-in-None-clause-value c = λ ks v stored.
    owner_none c.args.directory.now v.session.state c.args.name c.args.typed.now (sym c.in-None.is ∙ c.user_typed.ensures)
