-- How rights are spelled in the tables.
use Rattle.std.specs.Prelude.{ℕ, Bool, true, false, List, [], ◌∷◌, ◌++◌, ◌==◌, Option, Some, None, length, codes, if◌then◌else◌}
use Rattle.sqlite.specs.declared.types.Value.TheVariants.{Text}
use Rattle.sqlite.specs.Order.{Row}
use Rattle.mgs_model.specs.declared.entry.Entry.{Entry}
use Rattle.mgs_model.specs.Draw.{entry_text}
use Rattle.mgs_laws.specs.Apart.{Rules}

-- a name, or nothing if there is none
abbrev pub text_or_empty : Option (List ℕ) → List ℕ
text_or_empty None = []
text_or_empty (Some name) = name

abbrev pub line_feed : List ℕ
line_feed = 10 ∷ []

-- the entries, each as it is printed and on a line of its own
abbrev pub entry_lines : List Entry → List ℕ
entry_lines [] = []
entry_lines (e ∷ es) = (entry_text e ++ line_feed) ++ entry_lines es

-- the rights as a row of the table of buffers
abbrev pub values_of : Rules → Row
values_of r = Text r.name ∷ Text r.owners.owner ∷ Text (text_or_empty r.owners.group) ∷ Text (entry_lines r.entries) ∷ []

-- nothing before the first entry, and a semicolon before each other one
abbrev pub separator : Bool → List ℕ
separator true = []
separator false = codes "; "

-- the entries, each as it is printed, and what is between them
abbrev pub parted : Bool → List Entry → List ℕ
parted is_first [] = []
parted is_first (e ∷ es) = (separator is_first ++ entry_text e) ++ parted false es

-- the entries in one line, or a dash if there is none
abbrev pub listed : List Entry → List ℕ
listed entries = if length entries == 0 then codes "-" else parted true entries

-- the rights in one line, without the name
abbrev pub told_rights : Rules → List ℕ
told_rights r = (((r.owners.owner ++ codes ":") ++ text_or_empty r.owners.group) ++ codes " ") ++ listed r.entries

-- what was, and what is
abbrev pub arrow : List ℕ → List ℕ → List ℕ
arrow old new = (old ++ codes " -> ") ++ new
