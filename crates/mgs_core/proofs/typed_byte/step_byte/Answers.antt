use Rattle.mgs_core.proofs.typed_byte.step_byte.Goals as goal

pub returns-in-Some-clause-step : goal.returns-in-Some-clause-step
returns-in-Some-clause-step g c = c.step_search.ensures c.args.directory.now c.args.buffers.now
