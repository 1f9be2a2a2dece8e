use Rattle.mgs_ledger.proofs.Counts.{all_for_users}
use Rattle.mgs_ledger.proofs.laws.each_user_is_counted.Goals as goal

pub returns : goal.returns
returns c = all_for_users
