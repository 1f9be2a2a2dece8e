use Rattle.std.proofs.Common.{◌≡◌, take}
use Rattle.mgs_acl.proofs.list.List.copy.Given as goal

-- the entries so far are copied
abbrev pub invariant-loop-i : goal.invariant-loop-i
invariant-loop-i l = l.entries.items ≡ take l.i l.entry-items
