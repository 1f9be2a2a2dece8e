use Rattle.std.proofs.Common.{◌∙◌}
use Rattle.mgs_arrange.proofs.WindowsGone.{one_left}
use Rattle.mgs_arrange.proofs.removal.delete_others.Goals as goal

pub returns-clause-arranged : goal.returns-clause-arranged
returns-clause-arranged g c n =
    one_left c.args.buffers.now c.delete_below.new.buffers c.args.session.now c.delete_below.new.session c.delete_below.ensures.first c.delete_below.ensures.one (c.delete_below.ensures.same ∙ c.delete_above.ensures.same)
