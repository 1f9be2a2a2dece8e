use Rattle.std.proofs.Common.{arith}
use Rattle.mgs_paint.proofs.Strides.{same_more}
use Rattle.mgs_paint.proofs.picture_changes.skip_same.Goals as goal

pub loop-i-preserved : goal.loop-i-preserved
loop-i-preserved c =
    (omega (arith, c.loop-i.invariant.0, c.loop-i-test.true), same_more c.args.old.now c.args.new.now c.loop-i.i 8 c.loop-i.invariant.1 (c.is_same.ensures c.if-is_same.true))
