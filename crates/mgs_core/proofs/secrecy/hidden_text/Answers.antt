use Rattle.mgs_laws.proofs.Stepping.{hidden_text}
use Rattle.mgs_core.proofs.secrecy.hidden_text.Goals as goal

pub returns : goal.returns
returns c = hidden_text
