-- What is known of the files of a configuration, and what becomes of the tables that name them.
use Rattle.std.specs.Prelude.{◌≡◌, ◌≤◌, ◌<◌, ◌+◌, ℕ, nat_lt, List, [], ◌∷◌, ◌++◌, length, Option, Some, None, if◌then◌else◌}
use Rattle.toml.specs.Data.{Data}
use Rattle.mgs_model.specs.Access.{Directory, owners_of}
use Rattle.mgs_buffers.specs.MarkedBuffer.{MarkedBuffer, marked_new}
use Rattle.mgs_config.specs.Faults.{first_fault}
use Rattle.mgs_config.specs.Buffers.{name_of, owner_of, owning_group, listed, entries_in, written, path_of, has_file, or_else, refused_beside, buffer_refused}
use Rattle.mgs_config.specs.declared.config_fault.TableFault.{TableFault}
use Rattle.mgs_config.specs.declared.config_fault.TableFault.TheVariants.{Long, File, Short}

-- WHAT IS TOLD OF FILES

-- of the file at a path: nothing, that it cannot be read, or its text
abbrev pub Tells : Type 0
Tells = List ℕ → Option (Option (List ℕ))

-- what was read, a text or nothing, is what is told, where anything is
abbrev pub IsTold : Option (Option (List ℕ)) → Option (List ℕ) → Type 0
IsTold None read = Unit {0}
IsTold (Some told) read = told ≡ read

-- A text that the file at a path may give when it is read, as far as that is known. Unlike what is told, it does not say that the file can
-- be read
abbrev pub Gives : Type 1
Gives = List ℕ → List ℕ → Type 0

-- what the one gives the other gives
abbrev pub GivesNoMore : Gives → Gives → Type 0
GivesNoMore now before = (path text : List ℕ) → now path text → before path text

-- the file at a path may give more than a text may have
pub record GivesLong (gives : Gives) (path : List ℕ) : Type 0 where
  pub text : List ℕ
  pub given : gives path text
  pub long : 1048576 < length text

-- the fault that a file is told to have: it cannot be read, or is longer than a text
abbrev pub told_fault : Option (Option (List ℕ)) → Option TableFault
told_fault None = None
told_fault (Some None) = Some File
told_fault (Some (Some text)) = if nat_lt 1048576 (length text) then Some Long else None

abbrev pub file_fault : Tells → Option (List ℕ) → Option TableFault
file_fault tells None = None
file_fault tells (Some path) = told_fault (tells path)

-- why the table of a buffer is refused after those of others: its own faults come before that of its file
abbrev pub table_refused : Tells → Directory → List Data → Data → Option TableFault
table_refused tells directory before row = or_else (buffer_refused directory before row) (file_fault tells (path_of row))

-- a count of faults rose, or stood at the last u64
abbrev pub HasRisen : ℕ → ℕ → Type 0
HasRisen old new = old < 18446744073709551615 → old < new

-- the count of faults before and after: it rose where a file could not be read, and stayed where another fault was found
abbrev pub IsCounted : TableFault → ℕ → ℕ → Type 0
IsCounted File old new = HasRisen old new
IsCounted Short old new = old ≤ new
IsCounted _ old new = new ≡ old

-- THE BUFFERS

-- the text that the file at a path gave
pub record IsTextAt (tells : Tells) (gives : Gives) (path text : List ℕ) : Type 0 where
  pub told : IsTold (tells path) (Some text)
  pub given : gives path text
  pub few : length text ≤ 1048576

-- the text of a table that has a file at a path or a text
abbrev pub IsTextFrom : Tells → Gives → Option (List ℕ) → List ℕ → List ℕ → Type 0
IsTextFrom tells gives None written text = text ≡ written
IsTextFrom tells gives (Some path) written text = IsTextAt tells gives path text

abbrev pub IsTextOf : Tells → Gives → Data → List ℕ → Type 0
IsTextOf tells gives row text = IsTextFrom tells gives (path_of row) (written row) text

-- the buffer that a table gives, with this text
abbrev pub buffer_of : Data → List ℕ → MarkedBuffer
buffer_of row text = marked_new (name_of row) (owners_of (owner_of row) (owning_group row)) (entries_in (listed row)) text (has_file row)

-- the buffer of a table stands last
pub record IsAdded (tells : Tells) (gives : Gives) (row : Data) (old new : List MarkedBuffer) : Type 0 where
  pub text : List ℕ
  pub last : new ≡ old ++ buffer_of row text ∷ []
  pub told : IsTextOf tells gives row text

pub record IsBufferOf (tells : Tells) (gives : Gives) (row : Data) (k : MarkedBuffer) : Type 0 where
  pub text : List ℕ
  pub same : k ≡ buffer_of row text
  pub told : IsTextOf tells gives row text

-- each table has its buffer, in order
abbrev pub AreBuffers : Tells → Gives → List Data → List MarkedBuffer → Type 0
AreBuffers tells gives [] [] = Unit {0}
AreBuffers tells gives [] (k ∷ ks) = ⊥
AreBuffers tells gives (row ∷ rows) [] = ⊥
AreBuffers tells gives (row ∷ rows) (k ∷ ks) = IsBufferOf tells gives row k × AreBuffers tells gives rows ks

-- THE FIRST FAULT

-- a fault that a file of which this is told may have: that which is told, and where nothing is, either
abbrev pub IsFileFault : Option (Option (List ℕ)) → TableFault → Type 0
IsFileFault None File = Unit {0}
IsFileFault None Long = Unit {0}
IsFileFault None _ = ⊥
IsFileFault (Some told) fault = told_fault (Some told) ≡ Some fault

-- the same of the file at a path: it is too long only if it may give a text that is
pub record IsPathFault (tells : Tells) (gives : Gives) (path : List ℕ) (fault : TableFault) : Type 0 where
  pub told : IsFileFault (tells path) fault
  pub given : fault ≡ Long → GivesLong gives path

abbrev pub IsFaultAt : Tells → Gives → Option (List ℕ) → TableFault → Type 0
IsFaultAt tells gives None fault = ⊥
IsFaultAt tells gives (Some path) fault = IsPathFault tells gives path fault

-- a fault that is due of the table itself, or else one of its file
abbrev pub IsTableFault : Option TableFault → Tells → Gives → Option (List ℕ) → TableFault → Type 0
IsTableFault None tells gives path fault = IsFaultAt tells gives path fault
IsTableFault (Some due) tells gives path fault = due ≡ fault

-- a fault of a table where these buffers and this directory are there
abbrev pub IsRowFault : Tells → Gives → List MarkedBuffer → Directory → Data → TableFault → Type 0
IsRowFault tells gives buffers directory row fault = IsTableFault (refused_beside buffers directory row) tells gives (path_of row) fault

-- the first fault of the tables of buffers: no table before has one, and this table has it
pub record IsBufferFault (tells : Tells) (gives : Gives) (directory : Directory) (rows : List Data) (fault : ℕ × TableFault) : Type 0 where
  pub before : List Data
  pub row : Data
  pub after : List Data
  pub split : rows ≡ before ++ row ∷ after
  pub number : fault.0 ≡ length before + 1
  pub none : first_fault (table_refused tells directory) [] before ≡ None
  pub due : IsTableFault (buffer_refused directory before row) tells gives (path_of row) fault.1
