-- What is gathered of what is told, and what each act commits of it.
use Rattle.std.specs.Prelude.{◌≡◌, ◌⊎◌, ℕ, ℤ, Bool, true, false, nat_lt, cond, List, [], ◌++◌, length, map, Option, Some, slice_get, IsTrue}
use Rattle.sqlite.specs.Order.{Row}
use Rattle.sqlite.specs.Store.{Ghosts}
use Rattle.sqlite.specs.State.{HasCleanDisk}
use Rattle.sqlite.specs.Held.{Held, state}
use Rattle.mgs_tables.specs.Changes.{RanChanges, Statement}
use Rattle.mgs_journal.specs.Acts.{Act, Alter, Forget, Put, Tell, Tick}
use Rattle.mgs_journal.specs.Rows.{KeptRights}
use Rattle.mgs_journal.specs.Texts.{KeptText}
use Rattle.mgs_journal.specs.declared.Told.{Told}
use Rattle.mgs_journal.specs.declared.change.Change.{Change}
use Rattle.mgs_ledger.specs.declared.batch.Gathered.{Gathered}
use Rattle.mgs_ledger.specs.Counting.{Gathering, gathered_more, gathering}
use Rattle.mgs_ledger.specs.Keeping.{events_of, forget_events, forget_statements, statements_of}
use Rattle.mgs_ledger.specs.Snapshots.{IsTextPut}
use Rattle.mgs_ledger.specs.Gathering.{told_row}

-- what is left of what is gathered once there is room for one more: all is committed where 256 are gathered
abbrev pub made_room : List Gathered → List Gathered
made_room xs = cond (nat_lt (length xs) 256) xs []

-- what is told is gathered, with the time at which it was told
abbrev pub IsGathered : Told → Gathering → Gathering → Type 0
IsGathered told old new = (at : ℤ) × (new ≡ gathered_more told at old)

-- all that was gathered is committed: a second's rows stay tallied
abbrev pub IsEmptied : Gathering → Gathering → Type 0
IsEmptied was is = (is.events ≡ []) × (is.tally ≡ was.tally)

-- the statements, the events that were gathered and then these are one transaction, which is the last
abbrev pub IsCommitted : {S : Type 0} → Ghosts S → List Statement → List Gathered → List Row → Held S → Held S → Type 0
IsCommitted g statements gathered events old new = RanChanges g statements (map told_row gathered ++ events) old (state g new).committed

-- what was gathered is a transaction by itself
abbrev pub AreCommitted : {S : Type 0} → Ghosts S → List Gathered → Held S → Held S → Type 0
AreCommitted g gathered old new = RanChanges g [] (map told_row gathered) old (state g new).committed

-- the tables are as they were, or have what was gathered and no more
abbrev pub IsNotTaken : {S : Type 0} → Ghosts S → List Gathered → Held S → Held S → Type 0
IsNotTaken g gathered old new =
    HasCleanDisk (state g new) → IsTrue (state g new).is_open → ((state g new).committed ≡ (state g old).committed) ⊎ AreCommitted g gathered old new

-- the changes of rows, with what was gathered, at one time
abbrev pub IsAltered : {S : Type 0} → Ghosts S → Option (List ℕ) → List Change → List KeptRights → List Gathered → Held S → Held S → Type 0
IsAltered g user changes rows gathered old new = (at : ℤ) × IsCommitted g (statements_of changes rows) gathered (events_of at user changes rows) old new

-- a name is forgotten, with what was gathered
abbrev pub IsForgotten : {S : Type 0} → Ghosts S → List ℕ → List KeptRights → List Gathered → Held S → Held S → Type 0
IsForgotten g name rows gathered old new = (at : ℤ) × IsCommitted g (forget_statements name rows) gathered (forget_events at name rows) old new

-- the buffer of the row at an index was given this text, with what was gathered
pub record IsPutAt {S : Type 0} (g : Ghosts S) (place : ℕ) (text : KeptText) (rows : List KeptRights) (gathered : List Gathered) (old new : Held S) : Type 0 where
  pub put : (k : KeptRights) → slice_get rows place ≡ Some k → IsTextPut g k.rules.name text gathered old new

-- nothing is committed if there is room, else all that was gathered
abbrev pub MakesRoom : {S : Type 0} → Ghosts S → Bool → List Gathered → Held S → Held S → Type 0
MakesRoom g true gathered old new = new ≡ old
MakesRoom g false gathered old new = HasCleanDisk (state g new) → AreCommitted g gathered old new

-- nothing is changed, or all that was gathered is committed
abbrev pub IsTicked : {S : Type 0} → Ghosts S → Gathering → Gathering → Held S → Held S → Type 0
IsTicked g was is old new = ((is ≡ was) × (new ≡ old)) ⊎ (IsEmptied was is × (HasCleanDisk (state g new) → AreCommitted g was.events old new))

-- what an act does to what is gathered and to the tables: a change, a forgotten name and a text commit all that was gathered, and what is
-- told comes after it
abbrev pub IsDone : {S : Type 0} → Ghosts S → Act → List KeptRights → Gathering → Gathering → Held S → Held S → Type 0
IsDone g (Alter user changes) rows was is old new = IsEmptied was is × (HasCleanDisk (state g new) → IsAltered g user changes rows was.events old new)
IsDone g (Forget name) rows was is old new = IsEmptied was is × (HasCleanDisk (state g new) → IsForgotten g name rows was.events old new)
IsDone g (Put place text) rows was is old new = IsEmptied was is × (HasCleanDisk (state g new) → IsPutAt g place text rows was.events old new)
IsDone g (Tell told) rows was is old new = IsGathered told (gathering (made_room was.events) was.tally) is × MakesRoom g (nat_lt (length was.events) 256) was.events old new
IsDone g Tick rows was is old new = IsTicked g was is old new
