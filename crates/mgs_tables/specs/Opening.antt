-- An open of the tables' file.
use Rattle.std.specs.Prelude.{◌≡◌, ◌⊎◌, [], ℤ, pos}
use Rattle.sqlite_disk.specs.declared.Disk as disk
use Rattle.sqlite.specs.Store.{Ghosts}
use Rattle.sqlite.specs.declared.FileStore.{FileStore}
use Rattle.sqlite.specs.declared.error.Error.{Error}
use Rattle.sqlite.specs.declared.error.Error.TheVariants.{SqliteFailure}
use Rattle.sqlite.specs.declared.error.ErrorCode.TheVariants as code
use Rattle.sqlite.specs.Held.{Held, state}
use Rattle.sqlite.specs.Files.{file_state, over_files, IsOpened}
use Rattle.sqlite.specs.Recovery.{Image}
use Rattle.sqlite.specs.Start.{FindsIn}
use Rattle.mgs_tables.specs.declared.open_file.OpenFault.{OpenFault}
use Rattle.mgs_tables.specs.declared.open_file.OpenFault.TheVariants as fault
use Rattle.mgs_tables.specs.Texts.{select_version, count_objects, count_tables, table_texts}
use Rattle.mgs_tables.specs.Making.{HasMade, HasGrownTo2, HasGrownTo3}
use Rattle.mgs_tables.specs.Reading.{ShowsNumber}

-- an error of SQLite's own is one of the disk, the file or the memory, and any other tells of other tables
abbrev pub fault_of : Error → OpenFault
fault_of (SqliteFailure code.NotADatabase) = fault.Damaged
fault_of (SqliteFailure code.DatabaseCorrupt) = fault.Damaged
fault_of (SqliteFailure code.DatabaseBusy) = fault.Locked
fault_of (SqliteFailure code.OutOfMemory) = fault.OutOfMemory
fault_of (SqliteFailure code.DiskFull) = fault.DiskFull
fault_of (SqliteFailure _) = fault.System
fault_of _ = fault.Foreign

-- the file of version 2 has the four tables as they are made, and is given what version 3 has more
pub record HasGrownFrom2 {S : Type 0} (g : Ghosts S) (old new : Held S) : Type 0 where
  pub mid : Held S
  pub tables : ShowsNumber count_tables table_texts (state g old) (state g mid) (pos 4)
  pub grown : HasGrownTo3 g mid (state g new).committed

-- the file of version 1 has three of the four tables as they are made, and is given the last, which it did not have, and then the rest
pub record HasGrownFrom1 {S : Type 0} (g : Ghosts S) (old new : Held S) : Type 0 where
  pub mid : Held S
  pub second : Held S
  pub tables : ShowsNumber count_tables table_texts (state g old) (state g mid) (pos 3)
  pub texts : HasGrownTo2 g mid (state g second).committed
  pub grown : HasGrownTo3 g second (state g new).committed

-- it has the four tables as they are made and says version 3, or it says an earlier version and is made so
abbrev pub HasTables : {S : Type 0} → Ghosts S → Held S → Held S → ℤ → Type 0
HasTables g old new version =
    ((version ≡ pos 3) × ShowsNumber count_tables table_texts (state g old) (state g new) (pos 4)) ⊎ (((version ≡ pos 2) × HasGrownFrom2 g old new) ⊎ ((version ≡ pos 1) × HasGrownFrom1 g old new))

-- the version that the file says, and its tables
pub record IsOurs {S : Type 0} (g : Ghosts S) (old new : Held S) : Type 0 where
  pub mid : Held S
  pub number : ℤ
  pub version : ShowsNumber select_version [] (state g old) (state g mid) number
  pub tables : HasTables g mid new number

-- the file had nothing and was given the tables, or it had something, which was found to be these tables
pub record IsReady {S : Type 0} (g : Ghosts S) (old new : Held S) : Type 0 where
  pub mid : Held S
  pub count : ℤ
  pub objects : ShowsNumber count_objects [] (state g old) (state g mid) count
  pub tables : ((count ≡ pos 0) × HasMade g mid (state g new).committed) ⊎ IsOurs g mid new

-- it is what the file held that was found, and then made ready
pub record IsOpen {D : Type 0} {g : disk.Ghosts D} (start : Image) (now : Held (FileStore D g)) : Type 0 where
  pub was : Held (FileStore D g)
  pub opened : IsOpened was
  pub found : FindsIn start (file_state was)
  pub ready : IsReady over_files was now
