-- What asking for one buffer's rights leaves of what is kept for the others.
use Rattle.std.specs.Prelude.{◌≡◌, ℕ, List}
use Rattle.mgs_model.specs.Access.{Directory}
use Rattle.mgs_model.specs.declared.owners.Owners.{Owners}
use Rattle.mgs_model.specs.declared.entry.Entry.{Entry}
use Rattle.mgs_cache.specs.Kept.{Kept, AreRight}

-- what was right for any other place still is
abbrev pub StayRight : ℕ → List Kept → List Kept → Type 0
StayRight place old new =
    (other : ℕ) (directory : Directory) (owners : Owners) (entries : List Entry) → (place ≡ other → ⊥) → AreRight other directory owners entries old → AreRight other directory owners entries new
