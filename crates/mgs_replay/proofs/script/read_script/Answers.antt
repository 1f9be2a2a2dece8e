use Rattle.mgs_replay.proofs.Taking.{takes_then}
use Rattle.mgs_replay.proofs.script.read_script.Goals as goal

pub returns-in-Err-clause-taken : goal.returns-in-Err-clause-taken
returns-in-Err-clause-taken g c = takes_then _ _ _ c.loop.bytes.items c.loop.invariant.taken c.loop.invariant.limit c.in-Err.ensures
