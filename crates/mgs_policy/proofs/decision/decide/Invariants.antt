use Rattle.std.proofs.Common.{◌≡◌, ◌+◌, drop}
use Rattle.std.specs.Option.{option_copied}
use Rattle.mgs_model.specs.Access.{decision, owners_of}
use Rattle.mgs_policy.specs.Walk.{wanted}
use Rattle.mgs_policy.proofs.Walks.{decided_from}
use Rattle.mgs_policy.proofs.decision.decide.Given as goal

-- the entries that are left decide on the rights that are left
abbrev pub invariant-loop-place : goal.invariant-loop-place
invariant-loop-place l = decided_from (l.place + 1) l.directory (owners_of l.owner (option_copied l.group)) l.user (drop l.place l.entry-items) (wanted l.left) ≡ decision l.directory (owners_of l.owner (option_copied l.group)) l.user l.list l.fn.mask
