use Rattle.std.proofs.Common.{◌∙◌}
use Rattle.mgs_gap.proofs.FeedMoves.{feeds_gone}
use Rattle.mgs_gap.proofs.feeds.Feeds.delete_after.Goals as goal

pub returns-clause-after : goal.returns-clause-after
returns-clause-after c =
    c.truncate.ensures.items ∙ feeds_gone c.deref.result.now c.args.self.now.after.items c.args.back.now c.args.n c.below-left.result c.below-left.ensures c.deref.ensures.value c.requires.feeds c.requires.within
