use Rattle.mgs_laws.proofs.Settling.{settled_settled}
use Rattle.mgs_core.proofs.laws.settled_stays.Goals as goal

pub returns : goal.returns
returns c = settled_settled
