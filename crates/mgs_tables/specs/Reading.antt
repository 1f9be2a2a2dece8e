-- What is read of the tables.
use Rattle.std.specs.Prelude.{◌≡◌, ℕ, ℤ, List, [], map, Option, Ok}
use Rattle.sqlite.specs.declared.types.Value.TheVariants.{Int}
use Rattle.sqlite.specs.Order.{Row, column}
use Rattle.sqlite.specs.State.{State, QueriesRow, Shown}
use Rattle.mgs_tables.specs.declared.rows.Event.{Event}
use Rattle.mgs_tables.specs.declared.rows.Rights.{Rights}
use Rattle.mgs_tables.specs.declared.rows.Text.{Text}
use Rattle.mgs_tables.specs.Texts.{select_rights, select_texts, select_events}
use Rattle.mgs_tables.specs.Rows.{rights_read, rights_columns, text_read, text_columns, event_read, event_columns}

-- the number stands first in the first row of the query's answer
pub record ShowsNumber (sql : List ℕ) (params : Row) (old new : State) (number : ℤ) : Type 0 where
  pub row : Row
  pub answer : QueriesRow sql params old new (Ok row)
  pub first : column row 0 ≡ Int number

-- the rights are all rows of the answer
pub record ShowsRights (old new : State) (all : List Rights) : Type 0 where
  pub rows : List Row
  pub answer : Shown select_rights [] old new rows
  pub same : map rights_read all ≡ map rights_columns rows

-- the texts are all rows of the answer
pub record ShowsTexts (old new : State) (all : List (Option Text)) : Type 0 where
  pub rows : List Row
  pub answer : Shown select_texts [] old new rows
  pub same : map text_read all ≡ map text_columns rows

-- the events are all rows of the answer
pub record ShowsEvents (params : Row) (old new : State) (all : List Event) : Type 0 where
  pub rows : List Row
  pub answer : Shown select_events params old new rows
  pub same : map event_read all ≡ map event_columns rows
