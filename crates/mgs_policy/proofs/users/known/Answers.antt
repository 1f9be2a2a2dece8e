use Rattle.std.proofs.Common.{arith}
use Rattle.mgs_policy.proofs.UserLemmas.{known_member, known_more}
use Rattle.mgs_policy.proofs.users.known.Goals as goal

pub push_user-requires : goal.push_user-requires
push_user-requires c = known_member c.args.users.now c.args.members.now c.loop-member.member-index _ c.requires (omega arith)

pub loop-member-preserved : goal.loop-member-preserved
loop-member-preserved c = known_more c.args.members.now c.loop-member.member-index _ _ _ (omega arith) c.loop-member.invariant c.in_ok-push_user.ensures
