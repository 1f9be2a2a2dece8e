use Rattle.toml.specs.View.{view}
use Rattle.mgs_config.proofs.Own.{people_counted}
use Rattle.mgs_config.proofs.config.configure.Goals as goal

pub returns-in-Err-clause-count : goal.returns-in-Err-clause-count
returns-in-Err-clause-count g c = people_counted (view c.args.document.now) c.in-Err.fault _ c.in-Err.ensures.err
