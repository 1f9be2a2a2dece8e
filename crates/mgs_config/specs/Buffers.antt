-- The tables of buffers.
use Rattle.std.specs.Prelude.{ℕ, nat_le, nat_lt, not, Bool, true, false, ◌&&◌, List, [], ◌∷◌, length, map, codes, Option, Some, None, is_some, Result, Ok, Err, if◌then◌else◌}
use Rattle.std.specs.Option.{option_map, unwrap_or}
use Rattle.std.specs.List.{list_all}
use Rattle.std.specs.Str.{chars}
use Rattle.toml.specs.Data.{Data, get}
use Rattle.mgs_model.specs.Access.{Directory, UserGroup, is_among, is_group_named}
use Rattle.mgs_model.specs.declared.entry.Entry.{Entry}
use Rattle.mgs_acl.specs.Spelling.{entry_in}
use Rattle.mgs_buffers.specs.Adding.{are_names}
use Rattle.mgs_buffers.specs.MarkedBuffer.{MarkedBuffer, has_buffer}
use Rattle.mgs_config.specs.Rows.{has_only, text_at, values_at, is_text, text_of}
use Rattle.mgs_config.specs.declared.config_fault.TableFault.{TableFault}
use Rattle.mgs_config.specs.declared.config_fault.TableFault.TheVariants.{Key, Name, Twice, Unknown, Entry as NoEntry, Long}

-- WHAT A TABLE GIVES

-- the string at a key, or an empty one
abbrev pub string_at : List ℕ → Data → List ℕ
string_at key row = unwrap_or (text_at key row) []

abbrev pub name_of : Data → List ℕ
name_of row = string_at (codes "name") row

abbrev pub owner_of : Data → List ℕ
owner_of row = string_at (codes "owner") row

-- the name of its owning group, where it has one
abbrev pub owning_group : Data → Option (List ℕ)
owning_group row = text_at (codes "group") row

-- the values of its list
abbrev pub listed : Data → List Data
listed row = unwrap_or (values_at (codes "list") row) []

-- its text, where it has no file
abbrev pub written : Data → List ℕ
written row = chars (string_at (codes "text") row)

-- the path of its file
abbrev pub path_of : Data → Option (List ℕ)
path_of row = text_at (codes "file") row

abbrev pub has_file : Data → Bool
has_file row = is_some (path_of row)

-- the entries of a list of written ones
abbrev pub with_entry : {F : Type 0} → Result Entry F → List Entry → List Entry
with_entry (Ok e) es = e ∷ es
with_entry (Err f) es = es

abbrev pub entries_in : List Data → List Entry
entries_in [] = []
entries_in (d ∷ ds) = with_entry (entry_in (text_of d)) (entries_in ds)

-- ITS FAULTS

abbrev pub text_or_none : Option Data → Bool
text_or_none None = true
text_or_none (Some d) = is_text d

-- a name, an owner, a group or none, a list of strings, and a text or a file or neither
abbrev pub is_list_at : List ℕ → Data → Bool
is_list_at key row = unwrap_or (option_map (λ ds. list_all is_text ds) (values_at key row)) false

abbrev pub has_content : Data → Bool
has_content row =
    text_or_none (get (codes "text") row) && (text_or_none (get (codes "file") row) && not (is_some (get (codes "text") row) && is_some (get (codes "file") row)))

abbrev pub has_names : Data → Bool
has_names row =
    is_some (text_at (codes "name") row) && (is_some (text_at (codes "owner") row) && (text_or_none (get (codes "group") row) && is_list_at (codes "list") row))

abbrev pub is_buffer_row : Data → Bool
is_buffer_row row =
    has_only (codes "name" ∷ codes "owner" ∷ codes "group" ∷ codes "list" ∷ codes "text" ∷ codes "file" ∷ []) row && (has_names row && has_content row)

abbrev pub is_ok : {X F : Type 0} → Result X F → Bool
is_ok (Ok x) = true
is_ok (Err f) = false

abbrev pub is_entry : Data → Bool
is_entry d = is_ok (entry_in (text_of d))

-- its owner is a user of the directory, and its owning group, where it has one, a group of it
abbrev pub is_known : Option (List ℕ) → List UserGroup → Bool
is_known None groups = true
is_known (Some group) groups = is_group_named group groups

abbrev pub are_known : Directory → Data → Bool
are_known directory row = is_among (owner_of row) directory.users && is_known (owning_group row) directory.groups

-- its names, where a buffer of that name is there or not, and its owner and owning group are known or not
abbrev pub names_refused : Bool → Bool → Data → Option TableFault
names_refused taken known row =
    if not (is_buffer_row row) then Some Key
    else if not (are_names (name_of row) (owner_of row) (owning_group row)) then Some Name
    else if taken then Some Twice
    else if not known then Some Unknown
    else None

-- its list and text, where there are so many buffers
abbrev pub contents_refused : ℕ → Data → Option TableFault
contents_refused count row =
    if not (list_all is_entry (listed row)) then Some NoEntry
    else if nat_lt 64 (length (listed row)) then Some Long
    else if nat_le 256 count then Some Long
    else if nat_lt 1048576 (length (written row)) then Some Long
    else None

abbrev pub or_else : Option TableFault → Option TableFault → Option TableFault
or_else None later = later
or_else (Some fault) later = Some fault

abbrev pub refused_where : Bool → Bool → ℕ → Data → Option TableFault
refused_where taken known count row = or_else (names_refused taken known row) (contents_refused count row)

-- why the table of a buffer is refused where these buffers and this directory are there
abbrev pub refused_beside : List MarkedBuffer → Directory → Data → Option TableFault
refused_beside buffers directory row = refused_where (has_buffer (name_of row) buffers) (are_known directory row) (length buffers) row

-- why the table of a buffer is refused after those of others, where this is the directory; what its file holds aside
abbrev pub buffer_refused : Directory → List Data → Data → Option TableFault
buffer_refused directory before row = refused_where (is_among (name_of row) (map name_of before)) (are_known directory row) (length before) row
