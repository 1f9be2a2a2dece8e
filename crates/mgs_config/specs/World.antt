-- What a configuration gives, or why it is refused.
use Rattle.std.specs.Prelude.{◌≡◌, ℕ, not, List, [], ◌∷◌, map, codes, Option, Some, None, if◌then◌else◌, string_bytes}
use Rattle.std.specs.Option.{option_map}
use Rattle.toml.specs.Data.{Data}
use Rattle.mgs_model.specs.Access.{Directory}
use Rattle.mgs_config.specs.Faults.{first_fault, user_of, user_refused, names_of, group_of, group_refused}
use Rattle.mgs_config.specs.Buffers.{name_of, path_of}
use Rattle.mgs_config.specs.Files.{Tells, Gives, table_refused, IsBufferFault}
use Rattle.mgs_config.specs.Document.{is_configuration, rows_at}
use Rattle.mgs_config.specs.declared.config.BufferFile.{BufferFile}
use Rattle.mgs_config.specs.declared.config_fault.TableFault.{TableFault}
use Rattle.mgs_config.specs.declared.config_fault.TableFault.TheVariants.{Toml, Key}
use Rattle.mgs_config.specs.declared.config_fault.ConfigTable.{ConfigTable}
use Rattle.mgs_config.specs.declared.config_fault.ConfigTable.TheVariants.{Top, User, Group, Buffer}
use Rattle.mgs_config.specs.declared.config_fault.ConfigFault.{ConfigFault}

-- the users, each with his ticket
abbrev pub users_in : Data → List (List ℕ × List ℕ)
users_in d = map user_of (rows_at (codes "user") d)

abbrev pub directory_in : Data → Directory
directory_in d = record { users = names_of (users_in d); groups = map group_of (rows_at (codes "group") d) }

-- a fault of one of these tables
abbrev pub fault_of : ConfigTable → ℕ × TableFault → ConfigFault
fault_of table at = record { table = table; index = at.0; fault = at.1 }

abbrev pub first_of : Option (ℕ × TableFault) → Option (ℕ × TableFault) → Option ConfigFault
first_of (Some user) group = Some (fault_of User user)
first_of None group = option_map (fault_of Group) group

abbrev pub users_fault : Data → Option (ℕ × TableFault)
users_fault d = first_fault user_refused [] (rows_at (codes "user") d)

abbrev pub groups_fault : Data → Option (ℕ × TableFault)
groups_fault d = first_fault (group_refused (names_of (users_in d))) [] (rows_at (codes "group") d)

-- why a document is refused before its buffers are read
abbrev pub people_refused : Data → Option ConfigFault
people_refused d = if not (is_configuration d) then Some (fault_of Top (0, Key)) else first_of (users_fault d) (groups_fault d)

-- the name and the path of each buffer that has a file
abbrev pub with_path : Option (List ℕ) → List ℕ → List (List ℕ × List ℕ) → List (List ℕ × List ℕ)
with_path None name rest = rest
with_path (Some path) name rest = (name, path) ∷ rest

abbrev pub paths_in : List Data → List (List ℕ × List ℕ)
paths_in [] = []
paths_in (row ∷ rows) = with_path (path_of row) (name_of row) (paths_in rows)

-- the tables of buffers
abbrev pub buffer_rows : Data → List Data
buffer_rows d = rows_at (codes "buffer") d

abbrev pub files_in : Data → List (List ℕ × List ℕ)
files_in d = paths_in (buffer_rows d)

-- the names and paths of files that are kept
abbrev pub paths_of : List BufferFile → List (List ℕ × List ℕ)
paths_of files = map (λ f. (string_bytes f.name, string_bytes f.path)) files

-- the first table of a buffer that is refused, and why, as far as is told of the files
abbrev pub buffers_fault : Tells → Data → Option (ℕ × TableFault)
buffers_fault tells d = first_fault (table_refused tells (directory_in d)) [] (buffer_rows d)

-- the fault that is due before the buffers, or else the first of theirs
abbrev pub IsLaterFault : Option ConfigFault → Tells → Gives → Data → ConfigFault → Type 0
IsLaterFault (Some due) tells gives d e = due ≡ e
IsLaterFault None tells gives d e = (e.table ≡ Buffer) × IsBufferFault tells gives (directory_in d) (buffer_rows d) (e.index, e.fault)

-- why a document, or what is none, is refused
abbrev pub IsConfigFault : Option Data → Tells → Gives → ConfigFault → Type 0
IsConfigFault None tells gives e = e ≡ fault_of Top (0, Toml)
IsConfigFault (Some d) tells gives e = IsLaterFault (people_refused d) tells gives d e
