use Rattle.std.proofs.Common.{◌∙◌, ◌-◌, arith}
use Rattle.mgs_gap.proofs.Blocks.{gap_back, gap_on}
use Rattle.mgs_gap.proofs.block.Block.gap_to.Goals as goal

pub returns-then-a-before : goal.returns-then-a-before
returns-then-a-before c = c.pass_left.ensures ∙ gap_back c.args.self.now c.args.a (omega (arith, c.if-a-before.true, c.before-before.ensures))

pub returns-else-a-before : goal.returns-else-a-before
returns-else-a-before c = c.pass_right.ensures ∙ gap_on c.args.self.now c.args.a (c.args.a - c.before-before.result) (omega (arith, c.if-a-before.false, c.before-before.ensures))
