use Rattle.std.proofs.Common.{arith}
use Rattle.mgs_model.proofs.TypedNames.{all_met}
use Rattle.mgs_mini.proofs.common_start.common_len.Goals as goal

pub returns-clause-value : goal.returns-clause-value
returns-clause-value c = all_met c.args.a.now c.args.b.now c.loop-i.i c.min-len.result c.min-len.ensures (omega (arith, c.loop-i-test.false, c.loop-i.auto.i-end)) c.loop-i.invariant
