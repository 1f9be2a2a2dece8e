use Rattle.mgs_paint.proofs.Columns.{start_found, start_none}
use Rattle.mgs_paint.proofs.picture_changes.change_start.Goals as goal

pub returns-else-old-i : goal.returns-else-old-i
returns-else-old-i c =
    start_found c.args.old.now c.args.new.now c.loop-i.i _ _ c.requires c.loop-i-test.true c.loop-i.invariant.1 c.index-old-i.is c.index-new-i.is c.if-old-i.false

pub returns-after-loop-i : goal.returns-after-loop-i
returns-after-loop-i c = start_none c.args.old.now c.args.new.now c.loop-i.i c.requires c.loop-i.invariant.0 c.loop-i-test.false c.loop-i.invariant.1
