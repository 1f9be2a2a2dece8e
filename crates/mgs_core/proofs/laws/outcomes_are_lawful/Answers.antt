use Rattle.mgs_laws.proofs.Outcomes.{outcome_lawful}
use Rattle.mgs_core.proofs.laws.outcomes_are_lawful.Goals as goal

pub returns : goal.returns
returns c = outcome_lawful
