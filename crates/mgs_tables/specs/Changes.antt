-- Changes of rows and their events in one transaction.
use Rattle.std.specs.Prelude.{◌≡◌, ◌⊎◌, ℕ, true, List, [], ◌∷◌, Ok}
use Rattle.sqlite.specs.declared.types.Value.TheVariants.{Text}
use Rattle.sqlite.specs.Order.{Row}
use Rattle.sqlite.specs.Store.{Ghosts}
use Rattle.sqlite.specs.Effect.{Database}
use Rattle.sqlite.specs.State.{Executes}
use Rattle.sqlite.specs.Held.{Held, state}
use Rattle.mgs_tables.specs.declared.rows.RowChange.{RowChange}
use Rattle.mgs_tables.specs.declared.rows.RowChange.TheVariants.{Add, Set, Drop}
use Rattle.mgs_tables.specs.Both.{HasOtherCount}
use Rattle.mgs_tables.specs.Events.{RunAll}
use Rattle.mgs_tables.specs.Rows.{rights_values}
use Rattle.mgs_tables.specs.Texts.{insert_buffer, update_buffer, delete_buffer}

-- a statement and the values of its parameters
pub record Statement : Type 0 where
  pub sql : List ℕ
  pub values : Row

abbrev pub statement_of : RowChange → Statement
statement_of (Add row) = record { sql = insert_buffer; values = rights_values row }
statement_of (Set row) = record { sql = update_buffer; values = rights_values row }
statement_of (Drop name) = record { sql = delete_buffer; values = Text name.now ∷ [] }

-- each of the statements changes one row, in turn
abbrev pub RunChanges : {S : Type 0} → Ghosts S → List Statement → Held S → Held S → Type 0
RunChanges g [] old new = new ≡ old
RunChanges {S} g (s ∷ more) old new = (mid : Held S) × Executes s.sql s.values (state g old) (state g mid) (Ok 1) × RunChanges g more mid new

-- one of them changes another number of rows, after those before it changed one each
abbrev pub FindsNoneAmong : {S : Type 0} → Ghosts S → List Statement → Held S → Type 0
FindsNoneAmong g [] old = ⊥
FindsNoneAmong {S} g (s ∷ more) old =
    ((mid : Held S) × HasOtherCount s.sql s.values (state g old) (state g mid)) ⊎ ((mid : Held S) × Executes s.sql s.values (state g old) (state g mid) (Ok 1) × FindsNoneAmong g more mid)

-- the database is what the changes, and then the events, make of the old one
pub record RanChanges {S : Type 0} (g : Ghosts S) (changes : List Statement) (events : List Row) (old : Held S) (db : Database) : Type 0 where
  pub mid : Held S
  pub last : Held S
  pub changed : RunChanges g changes (record old { in_transaction = true }) mid
  pub all : RunAll g events mid last
  pub is : db ≡ (state g last).now
