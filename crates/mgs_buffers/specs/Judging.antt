-- What a judge keeps of the buffers.
use Rattle.std.specs.Prelude.{◌≡◌, ℕ, List, Some, map, slice_get}
use Rattle.mgs_model.specs.Access.{Directory}
use Rattle.mgs_model.specs.declared.owners.Owners.{Owners}
use Rattle.mgs_laws.specs.Apart.{Rules, rules_in}
use Rattle.mgs_model.specs.declared.entry.Entry.{Entry}
use Rattle.mgs_cache.specs.Kept.{Kept, AreRight}
use Rattle.mgs_buffers.specs.MarkedBuffer.{MarkedBuffer}

-- by what access to each buffer is decided
abbrev pub rules_kept : List MarkedBuffer → List Rules
rules_kept ks = rules_in (map (λ k. k.buffer) ks)

-- the buffer at a place has these owners and these entries
pub record IsRuled (place : ℕ) (owners : Owners) (entries : List Entry) (rules : List Rules) : Type 0 where
  pub name : List ℕ
  pub there : slice_get rules place ≡ Some (record { name = name; owners = owners; entries = entries })

-- each decision that is kept for the place of a buffer is the right one, by the owners and the entries of that buffer
pub record AreJudged (directory : Directory) (rules : List Rules) (keeps : List Kept) : Type 0 where
  pub each : (place : ℕ) (r : Rules) → slice_get rules place ≡ Some r → AreRight place directory r.owners r.entries keeps

-- what was kept of buffers, the one at this place among them, is right still
abbrev pub StaysRight : ℕ → Directory → Owners → List Entry → List Kept → List Kept → Type 0
StaysRight place directory owners entries old new =
    (rules : List Rules) → AreJudged directory rules old → IsRuled place owners entries rules → AreJudged directory rules new
