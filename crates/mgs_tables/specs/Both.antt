-- A change of one row and its events in one transaction.
use Rattle.std.specs.Prelude.{◌≡◌, ◌≢◌, ℕ, true, List, Ok}
use Rattle.sqlite.specs.Tree.{Trees}
use Rattle.sqlite.specs.Order.{Row}
use Rattle.sqlite.specs.Store.{Ghosts}
use Rattle.sqlite.specs.Effect.{Database}
use Rattle.sqlite.specs.State.{State, Executes}
use Rattle.sqlite.specs.Held.{Held, state}
use Rattle.mgs_tables.specs.Events.{RunAll}

-- the database is what the change, of one row, and then the events make of the old one
pub record RanWith {S : Type 0} (g : Ghosts S) (change : List ℕ) (of_change : Row) (events : List Row) (old : Held S) (db : Database) : Type 0 where
  pub mid : Held S
  pub last : Held S
  pub one : Executes change of_change (state g (record old { in_transaction = true })) (state g mid) (Ok 1)
  pub all : RunAll g events mid last
  pub is : db ≡ (state g last).now

-- a crash can leave the trees of a database that was made so
abbrev pub Left : (Database → Type 0) → Trees → Type 0
Left Made trees = (db : Database) × Made db × (trees ≡ db.trees)

-- nothing is changed
pub record IsUndone (old new : State) : Type 0 where
  pub now : new.now ≡ old.now
  pub committed : new.committed ≡ old.committed

-- the statement changes another number of rows than one
pub record HasOtherCount (change : List ℕ) (of_change : Row) (old new : State) : Type 0 where
  pub count : ℕ
  pub other : count ≢ 1
  pub one : Executes change of_change old new (Ok count)

-- in a transaction on the old database it does
abbrev pub FindsNone : {S : Type 0} → Ghosts S → List ℕ → Row → Held S → Type 0
FindsNone {S} g change of_change old = (mid : Held S) × HasOtherCount change of_change (state g (record old { in_transaction = true })) (state g mid)
