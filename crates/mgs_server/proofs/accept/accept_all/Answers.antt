use Rattle.mgs_server.proofs.Moving.{taken_then}
use Rattle.mgs_server.proofs.accept.accept_all.Goals as goal

pub loop-preserved : goal.loop-preserved
loop-preserved c = (λ few. c.admit.ensures.limit (c.loop.invariant.0 few), taken_then _ _ _ c.loop.invariant.1 c.admit.ensures.taken)
