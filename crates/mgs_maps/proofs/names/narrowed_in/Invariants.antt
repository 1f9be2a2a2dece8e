use Rattle.std.proofs.Common.{◌≡◌, drop, ℕ, List, Bor}
use Rattle.std.specs.Prelude.{fold}
use Rattle.std.specs.Option.{option_map}
use Rattle.mgs_maps.specs.Table.{rows_of, narrowed_row}
use Rattle.mgs_maps.proofs.names.narrowed_in.Given as goal

-- the rows that are left, from here, come to what all do
abbrev pub invariant-loop-binding : goal.invariant-loop-binding
invariant-loop-binding l =
    fold (narrowed_row l.input) (option_map (λ (t : Bor (List ℕ)). t.now) l.found) (rows_of (drop l.binding-index l.bindings)) ≡ fold (narrowed_row l.input) (option_map (λ (t : Bor (List ℕ)). t.now) l.initial.found) (rows_of l.bindings)
