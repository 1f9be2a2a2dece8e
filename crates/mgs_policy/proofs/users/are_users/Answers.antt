use Rattle.std.proofs.Common.{sym}
use Rattle.mgs_policy.proofs.UserLemmas.{are_users-texts}
use Rattle.mgs_policy.proofs.users.are_users.Goals as goal

pub loop-member-init : goal.loop-member-init
loop-member-init c = sym (are_users-texts c.args.users.now c.args.members.now)
