-- A JOURNAL WHOSE FILE IS FOLLOWED BY ANOTHER, once that is due.
use Rattle.std.specs.Prelude.{◌≡◌, ◌⊎◌}
use Rattle.mgs_journal.specs.Acts.{Act, Alter, Forget, Put, Tell, Tick}

-- a journal, and the files that it is kept in
pub record Chained (J F : Type 0) : Type 0 where
  pub journal : J
  pub files : F

-- after a tick another file may follow; no other act goes on to one
abbrev pub GoesOn : {J F : Type 0} → (F → J → F → J → Type 0) → Act → F → J → F → J → Type 0
GoesOn follows (Alter user changes) files mid files2 new = (files2 ≡ files) × (new ≡ mid)
GoesOn follows (Forget name) files mid files2 new = (files2 ≡ files) × (new ≡ mid)
GoesOn follows (Put place text) files mid files2 new = (files2 ≡ files) × (new ≡ mid)
GoesOn follows (Tell told) files mid files2 new = (files2 ≡ files) × (new ≡ mid)
GoesOn follows Tick files mid files2 new = follows files mid files2 new

-- the journal takes an act, and then goes on
pub record TakesAndGoesOn {J F : Type 0} (does : J → Act → J → Type 0) (follows : F → J → F → J → Type 0) (old : Chained J F) (act : Act) (new : Chained J F) : Type 0 where
  pub mid : J
  pub taken : does old.journal act mid
  pub goes : GoesOn follows act old.files mid new.files new.journal

-- the journal does not take an act, or it took a tick and no other file could follow
pub record FailsOrStops {J F : Type 0} (does : J → Act → J → Type 0) (fails : J → J → Type 0) (stops : F → J → F → J → Type 0) (old new : Chained J F) : Type 0 where
  pub why : (fails old.journal new.journal × (new.files ≡ old.files)) ⊎ ((mid : J) × does old.journal Tick mid × stops old.files mid new.files new.journal)
