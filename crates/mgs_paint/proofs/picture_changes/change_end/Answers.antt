use Rattle.mgs_paint.proofs.Columns.{end_found, end_none}
use Rattle.mgs_paint.proofs.picture_changes.change_end.Goals as goal

pub returns-else-old-end-clause-value : goal.returns-else-old-end-clause-value
returns-else-old-end-clause-value c =
    end_found c.args.old.now c.args.new.now c.loop-end.end _ _ c.requires c.loop-end-test.true c.loop-end.invariant.0 c.loop-end.invariant.1 c.index-old-end.is c.index-new-end.is c.if-old-end.false

pub returns-after-loop-end-clause-value : goal.returns-after-loop-end-clause-value
returns-after-loop-end-clause-value c = end_none c.args.old.now c.args.new.now c.loop-end.end c.loop-end-test.false c.loop-end.invariant.1
