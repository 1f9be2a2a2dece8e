use Rattle.std.proofs.Common.{◌≡◌, ◌+◌, ◌==◌, drop}
use Rattle.std.specs.List.{common_prefix_len}
use Rattle.mgs_mini.proofs.common_start.common_len.Given as goal

-- what is behind the characters that were met has the rest in common
abbrev pub invariant-loop-i : goal.invariant-loop-i
invariant-loop-i l = l.i + common_prefix_len (λ x y. x == y) (drop l.i l.a) (drop l.i l.b) ≡ common_prefix_len (λ x y. x == y) l.a l.b
