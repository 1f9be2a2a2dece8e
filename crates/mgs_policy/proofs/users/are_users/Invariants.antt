use Rattle.std.proofs.Common.{◌≡◌, drop, map}
use Rattle.std.specs.List.{list_all}
use Rattle.mgs_model.specs.Access.{is_among}
use Rattle.mgs_policy.specs.Groups.{are_users}
use Rattle.mgs_policy.proofs.users.are_users.Given as goal

-- the members that are left decide
abbrev pub invariant-loop-member : goal.invariant-loop-member
invariant-loop-member l = list_all (λ member. is_among member.now l.users) (drop l.member-index l.members) ≡ are_users l.users (map (λ member. member.now) l.members)
