use Rattle.mgs_seek.proofs.Puts.{last_planned, next_planned}
use Rattle.mgs_seek.proofs.query_replace.plan.Goals as goal

pub returns-then-last : goal.returns-then-last
returns-then-last g c = last_planned c.args.last c.args.anchor c.args.replacing.now c.pattern.result.now _ c.replace_last.result c.if-last.true c.pattern.ensures.value c.replace_last.ensures

pub returns-else-last : goal.returns-else-last
returns-else-last g c =
    next_planned c.args.last c.args.anchor c.args.replacing.now c.pattern-else-last.result.now c.put.result.now _ c.replace_match.result c.if-last.false c.pattern-else-last.ensures.value c.put.ensures.value c.replace_match.ensures
