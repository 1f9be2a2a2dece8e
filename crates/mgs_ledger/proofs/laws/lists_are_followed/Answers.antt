use Rattle.mgs_ledger.proofs.Followed.{lists_followed}
use Rattle.mgs_ledger.proofs.laws.lists_are_followed.Goals as goal

pub returns : goal.returns
returns c = lists_followed
