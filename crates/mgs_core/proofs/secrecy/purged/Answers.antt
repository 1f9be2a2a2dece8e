use Rattle.mgs_laws.proofs.Purge.{purged}
use Rattle.mgs_core.proofs.secrecy.purged.Goals as goal

pub returns : goal.returns
returns c = purged
