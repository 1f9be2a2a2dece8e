use Rattle.mgs_core.proofs.typed_byte.step_still.Goals as goal

pub returns-in-None-clause-step : goal.returns-in-None-clause-step
returns-in-None-clause-step g c =
    rw c.requires.plain (c.step_key.ensures.step c.args.directory.now c.args.buffers.now)
