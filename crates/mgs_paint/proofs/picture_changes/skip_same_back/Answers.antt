use Rattle.std.proofs.Common.{◌-◌, arith}
use Rattle.mgs_paint.proofs.Strides.{same_more_back}
use Rattle.mgs_paint.proofs.picture_changes.skip_same_back.Goals as goal

pub loop-end-preserved : goal.loop-end-preserved
loop-end-preserved c =
    (omega (arith, c.loop-end.invariant.0), same_more_back c.args.old.now c.args.new.now (c.loop-end.end - 8) c.loop-end.end (omega arith) c.loop-end.invariant.1 (c.is_same.ensures c.if-is_same.true))
