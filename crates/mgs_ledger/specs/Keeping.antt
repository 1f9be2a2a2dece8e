-- WHAT IS WRITTEN OF CHANGES: the statements that change rows, and the events that tell of them.
use Rattle.std.specs.Prelude.{ℕ, ℤ, Bool, ◌&&◌, List, [], ◌∷◌, ◌++◌, Option, None, Some, slice_get, codes, string_bytes, if◌then◌else◌}
use Rattle.std.specs.Str.{bytes_eq}
use Rattle.sqlite.specs.declared.types.Value.TheVariants.{Int, Text}
use Rattle.sqlite.specs.Order.{Row}
use Rattle.mgs_laws.specs.Apart.{Rules}
use Rattle.mgs_model.specs.Names.{same_name}
use Rattle.mgs_tables.specs.Changes.{Statement}
use Rattle.mgs_tables.specs.Texts.{insert_buffer, update_buffer, delete_buffer}
use Rattle.mgs_journal.specs.Changes.{row_changed}
use Rattle.mgs_journal.specs.Kept.{place_of}
use Rattle.mgs_journal.specs.Rows.{KeptRights, rules_in_rows}
use Rattle.mgs_journal.specs.declared.change.Change.{Change}
use Rattle.mgs_journal.specs.declared.change.Change.TheVariants.{Add, Set, Remove}
use Rattle.mgs_ledger.specs.ListChanges.{are_alike, list_change}
use Rattle.mgs_ledger.specs.Spelling.{text_or_empty, values_of, told_rights, arrow}
use Rattle.mgs_ledger.specs.declared.batch.Words.{Words}
use Rattle.mgs_ledger.specs.declared.planned.RowText.{RowText}
use Rattle.mgs_ledger.specs.declared.planned.PlannedRow.{PlannedRow}
use Rattle.mgs_ledger.specs.declared.planned.PlannedRow.TheVariants as planned

-- a row of the buffer of that name
abbrev pub is_row_of : List ℕ → KeptRights → Bool
is_row_of name k = same_name name k.rules.name

-- an event about a buffer. Nobody is the empty text.
abbrev pub event_row : ℤ → Option (List ℕ) → List ℕ → List ℕ → List ℕ → Row
event_row at user what buffer detail = Int at ∷ Text (text_or_empty user) ∷ Text what ∷ Text buffer ∷ Text detail ∷ []

-- what the words of an event are as a row
abbrev pub word_values : Words → Row
word_values w = event_row w.at w.user w.what.now (text_or_empty w.buffer) (string_bytes w.detail)

-- the texts of a row of the table of buffers
abbrev pub text_values : RowText → Row
text_values r = Text r.name ∷ Text r.owners.owner ∷ Text (text_or_empty r.owners.group) ∷ Text (string_bytes r.entries) ∷ []

abbrev pub planned_statement : PlannedRow → Statement
planned_statement (planned.Add r) = record { sql = insert_buffer; values = text_values r }
planned_statement (planned.Set r) = record { sql = update_buffer; values = text_values r }
planned_statement (planned.Drop name) = record { sql = delete_buffer; values = Text name ∷ [] }

-- the three parts of rights are spelled alike
abbrev pub is_spelled_alike : Rules → Rules → Bool
is_spelled_alike old new =
    are_alike old.entries new.entries && (bytes_eq old.owners.owner new.owners.owner && bytes_eq (text_or_empty old.owners.group) (text_or_empty new.owners.group))

-- rights in the place of others are one statement, unless they are the same
abbrev pub set_statements : Rules → Rules → List Statement
set_statements old new = if is_spelled_alike old new then [] else record { sql = update_buffer; values = values_of new } ∷ []

-- a part that is another is one event
abbrev pub part_events : ℤ → Option (List ℕ) → List ℕ → List ℕ → List ℕ → List ℕ → List Row
part_events at user what name old new = if bytes_eq old new then [] else event_row at user what name (arrow old new) ∷ []

-- a list that is another one is one event, which names the entries that differ
abbrev pub list_events : ℤ → Option (List ℕ) → Rules → Rules → List Row
list_events at user old new = if are_alike old.entries new.entries then [] else event_row at user (codes "list") new.name (list_change old.entries new.entries) ∷ []

abbrev pub owner_events : ℤ → Option (List ℕ) → Rules → Rules → List Row
owner_events at user old new = part_events at user (codes "owner") new.name old.owners.owner new.owners.owner

abbrev pub group_events : ℤ → Option (List ℕ) → Rules → Rules → List Row
group_events at user old new = part_events at user (codes "group") new.name (text_or_empty old.owners.group) (text_or_empty new.owners.group)

abbrev pub set_events : ℤ → Option (List ℕ) → Rules → Rules → List Row
set_events at user old new = list_events at user old new ++ (owner_events at user old new ++ group_events at user old new)

abbrev pub add_statements : Rules → List Statement
add_statements r = record { sql = insert_buffer; values = values_of r } ∷ []

abbrev pub add_events : ℤ → Option (List ℕ) → Rules → List Row
add_events at user r = event_row at user (codes "create") r.name (told_rights r) ∷ []

abbrev pub remove_statements : Rules → List Statement
remove_statements r = record { sql = delete_buffer; values = Text r.name ∷ [] } ∷ []

abbrev pub kill_events : ℤ → Option (List ℕ) → List ℕ → List Row
kill_events at user name = event_row at user (codes "kill") name [] ∷ []

-- what is done to a row, if there is one
abbrev pub row_set_statements : Option KeptRights → Rules → List Statement
row_set_statements None r = []
row_set_statements (Some k) r = set_statements k.rules r

abbrev pub row_set_events : ℤ → Option (List ℕ) → Option KeptRights → Rules → List Row
row_set_events at user None r = []
row_set_events at user (Some k) r = set_events at user k.rules r

abbrev pub row_remove_statements : Option KeptRights → List Statement
row_remove_statements None = []
row_remove_statements (Some k) = remove_statements k.rules

abbrev pub row_remove_events : ℤ → Option (List ℕ) → Option KeptRights → List Row
row_remove_events at user None = []
row_remove_events at user (Some k) = kill_events at user k.rules.name

-- one change of the rows
abbrev pub change_statements : Change → List KeptRights → List Statement
change_statements (Add r birth) rows = add_statements r
change_statements (Set i r) rows = row_set_statements (slice_get rows i) r
change_statements (Remove i) rows = row_remove_statements (slice_get rows i)

abbrev pub change_events : ℤ → Option (List ℕ) → Change → List KeptRights → List Row
change_events at user (Add r birth) rows = add_events at user r
change_events at user (Set i r) rows = row_set_events at user (slice_get rows i) r
change_events at user (Remove i) rows = row_remove_events at user (slice_get rows i)

-- one change after another
abbrev pub statements_of : List Change → List KeptRights → List Statement
statements_of [] rows = []
statements_of (c ∷ cs) rows = change_statements c rows ++ statements_of cs (row_changed c rows)

abbrev pub events_of : ℤ → Option (List ℕ) → List Change → List KeptRights → List Row
events_of at user [] rows = []
events_of at user (c ∷ cs) rows = change_events at user c rows ++ events_of at user cs (row_changed c rows)

-- a name is forgotten: the first row of it goes, if there is one, and nobody killed it
abbrev pub forget_statements : List ℕ → List KeptRights → List Statement
forget_statements name rows = elim (place_of name (rules_in_rows rows)) [ None ↦ [] | Some i ↦ change_statements (Remove i) rows ]

abbrev pub forget_events : ℤ → List ℕ → List KeptRights → List Row
forget_events at name rows = elim (place_of name (rules_in_rows rows)) [ None ↦ kill_events at None name | Some i ↦ change_events at None (Remove i) rows ]
