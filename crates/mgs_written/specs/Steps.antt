-- The steps of a save.
use Rattle.std.specs.Prelude.{◌≡◌, ◌<◌, ◌+◌, ◌-◌, ◌^◌, min, ℕ, List, [], ◌∷◌, ◌++◌, length, take, Option, None, Some, Result, Ok, Err}
use Rattle.std.specs.Option.{option_map}
use Rattle.std.specs.Path.{path_parent}

-- a new file beside the one at a path, for so many bytes, its bytes, its group, mode and owner, that the disk has it, that it stands at
-- the path, that the disk has the names of a folder, and that the new file was removed
pub data Step : Type 0 where
  Created : (path : List ℕ) → (size : ℕ) → Step
  Wrote : (bytes : List ℕ) → Step
  Grouped : Step
  Moded : Step
  Owned : Step
  Synced : Step
  Renamed : (path : List ℕ) → Step
  FolderSynced : (folder : List ℕ) → Step
  Discarded : Step

-- what was done, with more behind it; where nothing is told that stays so
abbrev pub told : List Step → Option (List Step) → Option (List Step)
told more done = option_map (λ steps. steps ++ more) done

-- how many steps failed so far, after one that may fail: one more if it failed, up to the last u64
abbrev pub failed_after : {V E : Type 0} → Result V E → ℕ → ℕ
failed_after (Ok value) failed = failed
failed_after (Err error) failed = min (failed + 1) (2 ^ 64 - 1)

-- a new file has these bytes, and the disk has them
abbrev pub filled : List ℕ → List Step
filled bytes = Wrote bytes ∷ Grouped ∷ Moded ∷ Owned ∷ Synced ∷ []

-- and it stands in the place of the file at a path
abbrev pub placed : List ℕ → List ℕ → List Step
placed path bytes = filled bytes ++ Renamed path ∷ []

abbrev pub put : List ℕ → List ℕ → List Step
put path bytes = Created path (length bytes) ∷ placed path bytes

-- the disk has the names of the folder, where there is one
abbrev pub folder_synced : Option (List ℕ) → List Step
folder_synced None = []
folder_synced (Some folder) = FolderSynced folder ∷ []

-- A SAVE: these bytes come to stand at a path, and only once the disk has them
abbrev pub saved : List ℕ → List ℕ → List Step
saved path bytes = put path bytes ++ folder_synced (path_parent path)

-- only a first part of these steps was done
pub record IsPart (steps : List Step) (old new : Option (List Step)) : Type 0 where
  pub count : ℕ
  pub few : count < length steps
  pub done : new ≡ told (take count steps) old

-- a new file that was begun is removed
abbrev pub removed : List Step → List Step
removed [] = []
removed (step ∷ steps) = (step ∷ steps) ++ Discarded ∷ []

-- A SAVE THAT FAILED: what stood at the path stands there still, since the last of these steps, the renaming, was not done; and the new
-- file, where one was made, was removed
pub record IsUnsaved (path bytes : List ℕ) (old new : Option (List Step)) : Type 0 where
  pub count : ℕ
  pub few : count < length (put path bytes)
  pub done : new ≡ told (removed (take count (put path bytes))) old
