-- What is read back of rights and texts: what spells the rows, to the letter.
use Rattle.std.specs.Prelude.{◌≡◌, ℕ, ℤ, pos, List, [], ◌∷◌, map}
use Rattle.sqlite.specs.declared.types.Value.TheVariants.{Int}
use Rattle.sqlite.specs.Order.{Row}
use Rattle.sqlite.specs.Store.{Ghosts}
use Rattle.sqlite.specs.State.{State, Shown, HasCleanDisk}
use Rattle.sqlite.specs.Held.{Held, state}
use Rattle.mgs_tables.specs.Rows.{rights_columns}
use Rattle.mgs_tables.specs.Texts.{select_rights, select_newest}
use Rattle.mgs_tables.specs.Reading.{ShowsEvents, ShowsNumber}
use Rattle.mgs_tables.specs.declared.rows.Event.{Event}
use Rattle.mgs_journal.specs.Rows.{KeptRights, births_in_rows}
use Rattle.mgs_rewind.specs.Account.{Account, accounted, first_account}
use Rattle.mgs_ledger.specs.Spelling.{values_of}
use Rattle.mgs_ledger.specs.Taken.{all_noted, last_number}

abbrev pub row_values : KeptRights → Row
row_values k = values_of k.rules

-- no birth number is known
abbrev pub AreUnborn : List KeptRights → Type 0
AreUnborn all = births_in_rows all ≡ map (λ _. 0) all

-- the rights are all rows of the table of buffers, and no birth number is known
pub record AreRead (old new : State) (all : List KeptRights) : Type 0 where
  pub rows : List Row
  pub answer : Shown select_rights [] old new rows
  pub same : map row_values all ≡ map rights_columns rows
  pub births : AreUnborn all

-- the events are read by pages, each after the last number of the one before, until there is none
abbrev pub ArePages : {S : Type 0} → Ghosts S → ℤ → List (List Event) → Held S → Held S → Type 0
ArePages g last [] old new = HasCleanDisk (state g new) → ShowsEvents (Int last ∷ Int (pos 256) ∷ []) (state g old) (state g new) []
ArePages {S} g last (page ∷ pages) old new =
    (mid : Held S) × (HasCleanDisk (state g mid) → ShowsEvents (Int last ∷ Int (pos 256) ∷ []) (state g old) (state g mid) page) × ArePages g (last_number last page) pages mid new

-- the number of the newest event is read
abbrev pub HasNewest : {S : Type 0} → Ghosts S → Held S → Held S → Type 0
HasNewest g old new = HasCleanDisk (state g new) → (number : ℤ) × ShowsNumber select_newest [] (state g old) (state g new) number

-- the account after the events of all pages
abbrev pub all_accounted : Account → List (List Event) → Account
all_accounted account [] = account
all_accounted account (page ∷ pages) = all_accounted (accounted account page) pages

-- the events of all pages say which names are taken, and tell rights
abbrev pub AreAllRead : {S : Type 0} → Ghosts S → Held S → Held S → List (List ℕ) → Account → Type 0
AreAllRead g old new names account =
    (pages : List (List Event)) × ArePages g (pos 0) pages old new × (names ≡ all_noted [] pages) × (account ≡ all_accounted first_account pages)
