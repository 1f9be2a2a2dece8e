use Rattle.std.proofs.Common.{◌≡◌, map, take}
use Rattle.mgs_policy.proofs.users.known.Given as goal

-- the names so far are those of the members so far
abbrev pub invariant-loop-member : goal.invariant-loop-member
invariant-loop-member l = l.names.items ≡ map (λ member. member.now) (take l.member-index l.members)
