use Rattle.mgs_edit.proofs.Rewrites.{is_change}
use Rattle.mgs_edit.proofs.rewrite_changes.planned.Goals as goal

pub returns-clause-plan : goal.returns-clause-plan
returns-clause-plan c = is_change c.args.answer c.changed_or.result c.changed_or.ensures
