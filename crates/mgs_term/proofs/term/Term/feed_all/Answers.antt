use Rattle.std.proofs.Common.{◌∙◌}
use Rattle.mgs_term.proofs.term.Term.feed_all.Goals as goal

pub returns-clause-drawn : goal.returns-clause-drawn
returns-clause-drawn c = λ s t is draws. c.feed_all.ensures.drawn s t (c.self.view_is ∙ is) draws
