-- Several events in one transaction.
use Rattle.std.specs.Prelude.{◌≡◌, ℕ, List, [], ◌∷◌, Ok}
use Rattle.sqlite.specs.Order.{Row}
use Rattle.sqlite.specs.Store.{Ghosts}
use Rattle.sqlite.specs.State.{Executes}
use Rattle.sqlite.specs.Held.{Held, state}
use Rattle.mgs_tables.specs.Texts.{insert_event}

-- each of the events is added in turn
abbrev pub RunAll : {S : Type 0} → Ghosts S → List Row → Held S → Held S → Type 0
RunAll g [] old new = new ≡ old
RunAll {S} g (event ∷ more) old new = (mid : Held S) × (count : ℕ) × Executes insert_event event (state g old) (state g mid) (Ok count) × RunAll g more mid new
