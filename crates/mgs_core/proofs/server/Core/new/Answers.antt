use Rattle.mgs_core.proofs.Sizes.{held_none}
use Rattle.mgs_core.proofs.server.Core.new.Goals as goal

pub invariant_of-result : goal.invariant_of-result
invariant_of-result g c = (held_none c.args.directory c.args.buffers c.new-2.result.items c.new-2.ensures.items c.requires, c.in_ok-judge.ensures c.args.directory)
