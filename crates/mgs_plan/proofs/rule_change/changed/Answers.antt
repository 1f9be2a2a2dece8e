use Rattle.std.proofs.Common.{[], sym, ap, ◌∙◌}
use Rattle.mgs_plan.specs.Listed.{entries_planned}
use Rattle.mgs_plan.specs.declared.outcome.EntryPlan.{EntryPlan}
use Rattle.mgs_plan.proofs.rule_change.changed.Goals as goal

pub returns-in-Delete : goal.returns-in-Delete
returns-in-Delete c = c.deleted.ensures [] ∙ ap (λ (k : EntryPlan). entries_planned k c.args.list) (sym c.in-Delete.is)
