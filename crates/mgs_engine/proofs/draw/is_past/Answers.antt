use Rattle.std.proofs.Common.{◌≤◌, arith}
use Rattle.mgs_model.specs.declared.limits.TheConstants.{QUEUE_LIMIT}
use Rattle.mgs_paint.specs.Painting.{bound_of}
use Rattle.mgs_engine.proofs.ScreenLemmas.{paint_fits}
use Rattle.mgs_engine.proofs.draw.is_past.Goals as goal

pub overflow_add-result : goal.overflow_add-result
overflow_add-result c =
    let most : bound_of c.args.screen.now.next.rows c.args.screen.now.next.cols ≤ QUEUE_LIMIT = paint_fits c.args.screen.now.next.rows c.args.screen.now.next.cols c.rows.ensures.picture.size in
    let bound : c.bound.result ≤ QUEUE_LIMIT = rw (c.bound.ensures, c.rows.ensures.value, c.cols.ensures.value) most in
    omega (arith, c.len.ensures.few, bound)
