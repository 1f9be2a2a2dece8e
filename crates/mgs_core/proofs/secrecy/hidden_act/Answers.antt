use Rattle.mgs_laws.proofs.Stepping.{hidden_act}
use Rattle.mgs_core.proofs.secrecy.hidden_act.Goals as goal

pub returns : goal.returns
returns c = hidden_act
