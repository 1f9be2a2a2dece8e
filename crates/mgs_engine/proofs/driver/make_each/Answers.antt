use Rattle.std.proofs.Common.{arith}
use Rattle.mgs_engine.proofs.Calls.{runs_more}
use Rattle.mgs_engine.proofs.driver.make_each.Goals as goal

pub loop-call-preserved : goal.loop-call-preserved
loop-call-preserved g c = runs_more _ _ _ c.args.calls.now c.loop-call.call-index _ (omega arith) c.loop-call.invariant c.in-Ok.ensures.ok
