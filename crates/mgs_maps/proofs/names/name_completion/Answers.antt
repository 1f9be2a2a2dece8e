use Rattle.mgs_maps.proofs.Named.{names_are_short}
use Rattle.mgs_maps.proofs.names.name_completion.Goals as goal

pub returns-clause-within : goal.returns-clause-within
returns-clause-within c = names_are_short c.args.input.now _ c.completed.ensures
