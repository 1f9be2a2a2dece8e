use Rattle.std.proofs.Common.{arith}
use Rattle.mgs_paint.proofs.Columns.{blank_more, ink_found, ink_none}
use Rattle.mgs_paint.proofs.picture_changes.ink_end.Goals as goal

pub loop-end-preserved : goal.loop-end-preserved
loop-end-preserved c =
    (omega (arith, c.loop-end.invariant.0), blank_more c.args.text.now c.loop-end.end _ c.loop-end-test.true c.loop-end.invariant.0 c.loop-end.invariant.1 c.index-text-end.is c.if-text-end-eq32.true)

pub returns-else-text-end-eq32-clause-value : goal.returns-else-text-end-eq32-clause-value
returns-else-text-end-eq32-clause-value c =
    ink_found c.args.text.now c.loop-end.end _ c.loop-end-test.true c.loop-end.invariant.0 c.loop-end.invariant.1 c.index-text-end.is c.if-text-end-eq32.false

pub returns-after-loop-end-clause-value : goal.returns-after-loop-end-clause-value
returns-after-loop-end-clause-value c = ink_none c.args.text.now c.loop-end.end c.loop-end-test.false c.loop-end.invariant.1
