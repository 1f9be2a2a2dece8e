-- What is kept of what access lists decided.
use Rattle.std.specs.Prelude.{◌≡◌, ℕ, List, Contains}
use Rattle.mgs_model.specs.Access.{Directory, decision}
use Rattle.mgs_model.specs.declared.owners.Owners.{Owners}
use Rattle.mgs_model.specs.declared.entry.Entry.{Entry}
use Rattle.mgs_model.specs.declared.entry.Decision.{Decision}

-- a decision on the rights of a mask for a user, by the list of the buffer at a place
pub record Kept : Type 0 where
  pub buffer : ℕ
  pub user : List ℕ
  pub mask : ℕ
  pub decision : Decision

abbrev pub kept : ℕ → List ℕ → ℕ → Decision → Kept
kept place user mask d = record { buffer = place; user = user; mask = mask; decision = d }

-- each decision that is kept for the buffer at a place is the right one, by these owners and these entries
pub record AreRight (place : ℕ) (directory : Directory) (owners : Owners) (entries : List Entry) (keeps : List Kept) : Type 0 where
  pub each : (user : List ℕ) (mask : ℕ) (d : Decision) → Contains keeps (kept place user mask d) → d ≡ decision directory owners user entries mask

-- each of these is one of those
pub record AreAmong (these those : List Kept) : Type 0 where
  pub each : (k : Kept) → Contains these k → Contains those k
