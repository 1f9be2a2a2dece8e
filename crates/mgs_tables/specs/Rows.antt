-- The values of a row: in the order of the statements' parameters, and as they are read back.
use Rattle.std.specs.Prelude.{[], ◌∷◌, Option, None, Some, string_bytes}
use Rattle.sqlite.specs.declared.types.Value.TheVariants.{Null, Int, Text}
use Rattle.sqlite.specs.Order.{Row, column}
use Rattle.mgs_tables.specs.declared.rows.Event.{Event}
use Rattle.mgs_tables.specs.declared.rows.EventRow.{EventRow}
use Rattle.mgs_tables.specs.declared.rows.Rights.{Rights}
use Rattle.mgs_tables.specs.declared.rows.RightsRow.{RightsRow}
use Rattle.mgs_tables.specs.declared.rows.Text.{Text as OneText}
use Rattle.mgs_tables.specs.declared.rows.TextRow.{TextRow}

abbrev pub rights_values : RightsRow → Row
rights_values rights = Text rights.name.now ∷ Text rights.owner.now ∷ Text rights.owning_group.now ∷ Text rights.entries.now ∷ []

abbrev pub event_values : EventRow → Row
event_values event = Int event.at ∷ Text event.user.now ∷ Text event.what.now ∷ Text event.buffer.now ∷ Text event.detail.now ∷ []

abbrev pub text_values : TextRow → Row
text_values text = Text text.name.now ∷ Int text.modified ∷ Int text.file ∷ Text text.body.now ∷ []

-- the values that were read, and the columns of the answer's row that they were read of
abbrev pub rights_read : Rights → Row
rights_read rights = Text (string_bytes rights.name) ∷ Text (string_bytes rights.owner) ∷ Text (string_bytes rights.owning_group) ∷ Text (string_bytes rights.entries) ∷ []

abbrev pub rights_columns : Row → Row
rights_columns row = column row 0 ∷ column row 1 ∷ column row 2 ∷ column row 3 ∷ []

abbrev pub event_read : Event → Row
event_read event =
    Int event.number ∷ Int event.at ∷ Text (string_bytes event.user) ∷ Text (string_bytes event.what) ∷ Text (string_bytes event.buffer) ∷ Text (string_bytes event.detail) ∷ []

abbrev pub event_columns : Row → Row
event_columns row = column row 0 ∷ column row 1 ∷ column row 2 ∷ column row 3 ∷ column row 4 ∷ column row 5 ∷ []

-- where a buffer has no text yet, each column is NULL
abbrev pub text_read : Option OneText → Row
text_read None = Null ∷ Null ∷ Null ∷ []
text_read (Some text) = Int text.modified ∷ Int text.file ∷ Text (string_bytes text.body) ∷ []

abbrev pub text_columns : Row → Row
text_columns row = column row 0 ∷ column row 1 ∷ column row 2 ∷ []
