use Rattle.std.proofs.Common.{◌-◌, arith}
use Rattle.mgs_paint.proofs.Strides.{blanks_more_back}
use Rattle.mgs_paint.proofs.picture_changes.skip_blanks_back.Goals as goal

pub loop-end-preserved : goal.loop-end-preserved
loop-end-preserved c =
    (omega (arith, c.loop-end.invariant.0), blanks_more_back c.args.text.now (c.loop-end.end - 8) c.loop-end.end 8 (omega arith) c.loop-end.invariant.0 c.loop-end.invariant.1 (c.is_same.ensures c.if-is_same.true))
