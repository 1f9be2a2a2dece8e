use Rattle.mgs_laws.proofs.Holder as holder
use Rattle.mgs_core.proofs.laws.kill_stays.Goals as goal

pub returns-clause-others : goal.returns-clause-others
returns-clause-others c = holder.kill_stays

pub returns-clause-rules : goal.returns-clause-rules
returns-clause-rules c = holder.rules_keep_kills
