use Rattle.mgs_ledger.proofs.Counts.{all_counted}
use Rattle.mgs_ledger.proofs.laws.all_is_counted.Goals as goal

pub returns : goal.returns
returns c = all_counted
