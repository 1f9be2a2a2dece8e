-- WHETHER THE TABLES SAY WHAT THEIR EVENTS SAY.
use Rattle.std.specs.Prelude.{◌≡◌, ℕ, List, length, map, Option, None}
use Rattle.sqlite.specs.Store.{Ghosts}
use Rattle.sqlite.specs.State.{HasCleanDisk}
use Rattle.sqlite.specs.Held.{Held, state}
use Rattle.mgs_laws.specs.Apart.{Rules}
use Rattle.mgs_journal.specs.Rows.{KeptRights, rules_in_rows}
use Rattle.mgs_journal.specs.Texts.{KeptText}
use Rattle.mgs_rewind.specs.Account.{Account}
use Rattle.mgs_rewind.specs.RowChanges.{ToldRights}
use Rattle.mgs_ledger.specs.Reading.{AreAllRead, AreRead, HasNewest}
use Rattle.mgs_ledger.specs.Snapshots.{AreTextsRead}
use Rattle.mgs_ledger.specs.Spelling.{listed, text_or_empty}

-- the rights of a buffer as events tell them
abbrev pub told_of : Rules → ToldRights
told_of r = record { name = r.name; owner = r.owners.owner; group = text_or_empty r.owners.group; list = listed r.entries }

-- each event follows from those before it, and all of them tell the rights of these rows, in the order of creation
abbrev pub Agrees : Account → List KeptRights → Type 0
Agrees account rows = (account.wrong ≡ None) × (account.rows ≡ map told_of (rules_in_rows rows))

-- the rows of the table of buffers are read, then all events, and both agree
pub record HasAgreed {S : Type 0} (g : Ghosts S) (old new : Held S) : Type 0 where
  pub mid : Held S
  pub rows : List KeptRights
  pub taken : List (List ℕ)
  pub account : Account
  pub rights : HasCleanDisk (state g mid) → AreRead (state g old) (state g mid) rows
  pub events : AreAllRead g mid new taken account
  pub agrees : Agrees account rows

-- first the rights are read, then the texts, as many, and then the events, which say which names are taken and agree with the rights
pub record AreResumed {S : Type 0} (g : Ghosts S) (old new : Held S) (all : List KeptRights) (kept : List (Option KeptText)) (taken : List (List ℕ)) : Type 0 where
  pub mid : Held S
  pub later : Held S
  pub last : Held S
  pub account : Account
  pub rights : HasCleanDisk (state g mid) → AreRead (state g old) (state g mid) all
  pub texts : HasCleanDisk (state g later) → AreTextsRead (state g mid) (state g later) kept
  pub count : length kept ≡ length all
  pub events : AreAllRead g later last taken account
  pub agrees : Agrees account all
  pub newest : HasNewest g last new
