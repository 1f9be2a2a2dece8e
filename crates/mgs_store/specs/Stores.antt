-- What a store does at a save.
use Rattle.std.specs.Prelude.{ℕ, ◌-◌, ◌^◌, ◌<◌, ◌≡◌, ◌++◌, List, [], ◌∷◌, Option, ◌⊎◌}
use Rattle.std.specs.Option.{option_map}
use Rattle.mgs_model.specs.Events.{Saved}

-- what was accepted, with more behind it; a store that does not tell what it accepts has None
abbrev pub told_more : List Saved → Option (List Saved) → Option (List Saved)
told_more more told = option_map (λ saved. saved ++ more) told

abbrev pub saved_of : List ℕ → List ℕ → List Saved
saved_of name text = record { name = name; text = text } ∷ []

-- a fault is counted: the count is more than before, or stands at the last u64
abbrev pub IsCounted : ℕ → ℕ → Type 0
IsCounted before afterwards = (before < afterwards) ⊎ (afterwards ≡ 2 ^ 64 - 1)

-- what a store tells of itself
pub record StoreTold : Type 0 where
  pub failed : ℕ
  pub accepted : Option (List Saved)

abbrev pub store_told : {S : Type 0} → (S → ℕ) → (S → Option (List Saved)) → S → StoreTold
store_told failed accepted s = record { failed = failed s; accepted = accepted s }
