-- The tables of a new file, and those of an earlier version.
use Rattle.std.specs.Prelude.{◌≡◌, ℕ, true, List, Ok}
use Rattle.sqlite.specs.Store.{Ghosts}
use Rattle.sqlite.specs.Effect.{Database}
use Rattle.sqlite.specs.Batch.{ExecutesAllInside}
use Rattle.sqlite.specs.Held.{Held, state}
use Rattle.mgs_tables.specs.Texts.{make_tables, grow_to_2, grow_to_3}

-- the database is what the statements, each of which ran, make of the old one
pub record HasRun {S : Type 0} (g : Ghosts S) (statements : List ℕ) (old : Held S) (db : Database) : Type 0 where
  pub last : Held S
  pub all : ExecutesAllInside g 0 statements (record old { in_transaction = true }) last (Ok tt)
  pub is : db ≡ (state g last).now

abbrev pub HasMade : {S : Type 0} → Ghosts S → Held S → Database → Type 0
HasMade g old db = HasRun g make_tables old db

abbrev pub HasGrownTo2 : {S : Type 0} → Ghosts S → Held S → Database → Type 0
HasGrownTo2 g old db = HasRun g grow_to_2 old db

abbrev pub HasGrownTo3 : {S : Type 0} → Ghosts S → Held S → Database → Type 0
HasGrownTo3 g old db = HasRun g grow_to_3 old db
