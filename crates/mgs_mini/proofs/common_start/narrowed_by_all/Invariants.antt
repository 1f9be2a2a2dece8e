use Rattle.std.proofs.Common.{◌≡◌, drop, map, List, Bor, ℕ}
use Rattle.std.specs.Prelude.{fold}
use Rattle.std.specs.Option.{option_map}
use Rattle.mgs_model.specs.Completion.{completion}
use Rattle.mgs_mini.specs.Narrowing.{narrowed}
use Rattle.mgs_mini.proofs.common_start.narrowed_by_all.Given as goal

-- the names that are left, from here, come to what all do
abbrev pub invariant-loop-name : goal.invariant-loop-name
invariant-loop-name l =
    fold (narrowed l.input) (option_map (λ (t : Bor (List ℕ)). t.now) l.found) (map (λ (n : Bor (List ℕ)). n.now) (drop l.name-index l.names)) ≡ completion (map (λ (n : Bor (List ℕ)). n.now) l.names) l.input
