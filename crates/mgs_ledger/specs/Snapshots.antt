-- What is kept of the texts of buffers.
use Rattle.std.specs.Prelude.{◌≡◌, ℕ, ℤ, pos, Bool, true, false, List, [], ◌∷◌, map, Option, None, Some}
use Rattle.sqlite.specs.declared.types.Value.TheVariants.{Null, Int, Text}
use Rattle.sqlite.specs.Order.{Row}
use Rattle.sqlite.specs.Store.{Ghosts}
use Rattle.sqlite.specs.State.{State, Shown}
use Rattle.sqlite.specs.Held.{Held, state}
use Rattle.mgs_journal.specs.Texts.{KeptText}
use Rattle.mgs_tables.specs.Both.{RanWith}
use Rattle.mgs_tables.specs.Rows.{text_columns}
use Rattle.mgs_tables.specs.Texts.{replace_text, select_texts}
use Rattle.mgs_ledger.specs.declared.batch.Gathered.{Gathered}
use Rattle.mgs_ledger.specs.Gathering.{told_row}

abbrev pub flag : Bool → ℤ
flag true = pos 1
flag false = pos 0

-- it as values of the table of texts
abbrev pub text_values : KeptText → Row
text_values t = Int (flag t.modified) ∷ Int t.file ∷ Text t.body ∷ []

-- a statement gave the buffer of the name this text, and with it what was gathered, in one transaction that is the last
pub record IsTextPut {S : Type 0} (g : Ghosts S) (name : List ℕ) (text : KeptText) (gathered : List Gathered) (old new : Held S) : Type 0 where
  pub ran : RanWith g replace_text (Text name ∷ text_values text) (map told_row gathered) old (state g new).committed

-- what is read of a buffer that has a text, and of one that has none yet
abbrev pub read_values : Option KeptText → Row
read_values None = Null ∷ Null ∷ Null ∷ []
read_values (Some t) = text_values t

-- the texts are those of all buffers
pub record AreTextsRead (old new : State) (all : List (Option KeptText)) : Type 0 where
  pub rows : List Row
  pub answer : Shown select_texts [] old new rows
  pub same : map read_values all ≡ map text_columns rows
