-- WHAT A NEW FILE BEGINS WITH: all that is kept when the file before it ends.
use Rattle.std.specs.Prelude.{◌≡◌, ℕ, ℤ, pos, ◌+ℤ◌, List, [], ◌∷◌, ◌++◌, map, Option, None, Some, codes, decimal}
use Rattle.sqlite.specs.declared.types.Value.TheVariants.{Int}
use Rattle.sqlite.specs.Order.{Row}
use Rattle.sqlite.specs.Store.{Ghosts}
use Rattle.sqlite.specs.State.{HasCleanDisk}
use Rattle.sqlite.specs.Held.{Held, state}
use Rattle.mgs_journal.specs.Rows.{KeptRights}
use Rattle.mgs_journal.specs.Texts.{KeptText}
use Rattle.mgs_tables.specs.Both.{RanWith}
use Rattle.mgs_tables.specs.Changes.{RanChanges, Statement}
use Rattle.mgs_tables.specs.Reading.{ShowsNumber}
use Rattle.mgs_tables.specs.Texts.{insert_buffer, insert_numbered, select_newest}
use Rattle.mgs_ledger.specs.declared.batch.Gathered.{Gathered}
use Rattle.mgs_ledger.specs.Keeping.{event_row}
use Rattle.mgs_ledger.specs.Snapshots.{IsTextPut}
use Rattle.mgs_ledger.specs.Spelling.{told_rights, values_of}
use Rattle.mgs_ledger.specs.Telling.{AreCommitted}

-- a row is added for each buffer
abbrev pub added_row : KeptRights → Statement
added_row k = record { sql = insert_buffer; values = values_of k.rules }

-- the first event: which file of the journal it is, from 1
abbrev pub file_event : ℤ → ℕ → Row
file_event at file = event_row at None (codes "file") [] (decimal file)

-- the rights of a buffer, as they are
abbrev pub is_event : ℤ → KeptRights → Row
is_event at k = event_row at None (codes "is") k.rules.name (told_rights k.rules)

-- a name whose last buffer a user made or killed
abbrev pub taken_event : ℤ → List ℕ → Row
taken_event at name = event_row at None (codes "taken") name []

abbrev pub first_events : ℤ → List KeptRights → List (List ℕ) → List Row
first_events at rows taken = map (is_event at) rows ++ map (taken_event at) taken

-- the text of each buffer that has one is put, in the order of the rows
abbrev pub AreTextsPut : {S : Type 0} → Ghosts S → List KeptRights → List (Option KeptText) → Held S → Held S → Type 0
AreTextsPut g [] texts old new = new ≡ old
AreTextsPut g (k ∷ ks) [] old new = new ≡ old
AreTextsPut g (k ∷ ks) (None ∷ ts) old new = AreTextsPut g ks ts old new
AreTextsPut {S} g (k ∷ ks) (Some t ∷ ts) old new = (mid : Held S) × (HasCleanDisk (state g mid) → IsTextPut g k.rules.name t [] old mid) × AreTextsPut g ks ts mid new

-- the tables were given all rows, then the first events, the first of which has this number, and then all texts
pub record IsFilled {S : Type 0} (g : Ghosts S) (at number : ℤ) (file : ℕ) (rows : List KeptRights) (texts : List (Option KeptText)) (taken : List (List ℕ)) (old new : Held S) : Type 0 where
  pub mid : Held S
  pub later : Held S
  pub added : HasCleanDisk (state g mid) → RanChanges g (map added_row rows) [] old (state g mid).committed
  pub told : HasCleanDisk (state g later) → RanWith g insert_numbered (Int number ∷ file_event at file) (first_events at rows taken) mid (state g later).committed
  pub put : AreTextsPut g rows texts later new

-- the tables were given what was gathered, and their newest event has this number
pub record IsSettled {S : Type 0} (g : Ghosts S) (gathered : List Gathered) (old new : Held S) (last : ℤ) : Type 0 where
  pub mid : Held S
  pub committed : HasCleanDisk (state g mid) → AreCommitted g gathered old mid
  pub newest : HasCleanDisk (state g new) → ShowsNumber select_newest [] (state g mid) (state g new) last

-- The tables were given what was gathered. Either they go on, or fresh tables do, which were filled with what is kept, from the next number on.
abbrev pub IsRenewed : {S : Type 0} → Ghosts S → ℕ → List KeptRights → List (Option KeptText) → List (List ℕ) → List Gathered → Held S → Held S → Option (Held S) → Held S → Type 0
IsRenewed g file rows texts taken gathered old fresh None new = (last : ℤ) × IsSettled g gathered old new last
IsRenewed g file rows texts taken gathered old fresh (Some before) new =
    (last : ℤ) × (at : ℤ) × IsSettled g gathered old before last × IsFilled g at (last +ℤ pos 1) file rows texts taken fresh new
