use Rattle.std.proofs.Common.{◌∙◌}
use Rattle.mgs_cache.proofs.Cached.{same_request, found_kept, promoted_among}
use Rattle.mgs_cache.proofs.judge.Judge.recall.Goals as goal

pub returns-clause-value : goal.returns-clause-value
returns-clause-value c =
    found_kept c.self.inside.decisions.entries c.args.self.now c.new-request.result c.args.buffer c.args.user.now c.args.mask c.copied-decision.result c.self.view_is c.new-request.ensures (c.copied-decision.ensures ∙ c.peek.ensures)

pub returns-clause-stays : goal.returns-clause-stays
returns-clause-stays c =
    promoted_among (same_request c.new-request.result) c.self.inside.decisions c.promote.new.self c.args.self.now c.self.view_is c.promote.ensures.entries
