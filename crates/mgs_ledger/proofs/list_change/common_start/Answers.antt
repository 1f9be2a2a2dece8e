use Rattle.std.proofs.Common.{rules}
use Rattle.mgs_ledger.proofs.ListEnds.{at_end}
use Rattle.mgs_ledger.proofs.list_change.common_start.Goals as goal

pub returns-else-i-new-clause-count : goal.returns-else-i-new-clause-count
returns-else-i-new-clause-count c = at_end c.args.old.now c.args.new.now c.loop-i.i _ (search rules) c.loop-i.invariant.alike
