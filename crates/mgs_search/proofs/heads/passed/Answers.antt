use Rattle.mgs_search.proofs.Borders.{others_more}
use Rattle.mgs_search.proofs.heads.passed.Goals as goal

pub loop-i-preserved : goal.loop-i-preserved
loop-i-preserved c = others_more c.args.first c.args.piece.now c.loop-i.i c.index-piece-i.result c.loop-i-test.true c.index-piece-i.is (c.is_other.ensures c.if-not-is_other.false) c.loop-i.invariant
