use Rattle.std.proofs.Common.{length, ◌-◌, arith}
use Rattle.mgs_gap.proofs.FeedLines.{line_in_front, line_in_back, few_in_back}
use Rattle.mgs_gap.proofs.feeds.Feeds.line_of.Goals as goal

pub overflow_sub-result : goal.overflow_sub-result
overflow_sub-result c =
    let now = c.args.self.now in let back = c.args.back.now in let xs = c.deref-else-p-start.result.now in
    let few = few_in_back xs now.after.items back (c.args.p - length c.args.front.now) c.below-else-p-start.result c.below-else-p-start.ensures c.deref-else-p-start.ensures.value c.requires.feeds.1 (omega (arith, c.requires.within, c.if-p-start.false)) in
    omega (arith, few, c.deref-else-p-start.ensures.len, c.len-else-p-start.ensures)

pub returns-then-p-start : goal.returns-then-p-start
returns-then-p-start c =
    line_in_front c.deref.result.now c.args.self.now.before.items c.args.front.now c.args.back.now c.args.p c.below.result c.below.ensures c.deref.ensures.value c.requires.feeds.0 c.if-p-start.true

pub returns-else-p-start : goal.returns-else-p-start
returns-else-p-start c =
    let now = c.args.self.now in let xs = c.deref-else-p-start.result.now in
    let line = line_in_back xs now.before.items now.after.items c.args.front.now c.args.back.now c.args.p c.below-else-p-start.result c.below-else-p-start.ensures c.deref-else-p-start.ensures.value c.requires.feeds.0 c.requires.feeds.1 c.if-p-start.false c.requires.within in
    omega (arith, line, c.deref-else-p-start.ensures.len, c.len-else-p-start.ensures, c.len.ensures, now.before.ok.0)
