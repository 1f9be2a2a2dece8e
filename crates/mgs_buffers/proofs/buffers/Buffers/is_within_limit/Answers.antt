use Rattle.mgs_buffers.proofs.Limits.{limit-at}
use Rattle.mgs_buffers.proofs.buffers.Buffers.is_within_limit.Goals as goal

pub returns-clause-limit : goal.returns-clause-limit
returns-clause-limit g c = limit-at c.args.name.now c.args.self.now c.len.ensures.limits
