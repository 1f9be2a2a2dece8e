use Rattle.std.proofs.Common.{arith}
use Rattle.mgs_gap.proofs.feeds.below.Goals as goal

pub returns : goal.returns
returns c = λ n p. omega (arith, c.loop-low.invariant.low n p, c.loop-low.invariant.high n p, c.loop-low-test.false)
