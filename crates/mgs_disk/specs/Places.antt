-- Where buffers are saved.
use Rattle.std.specs.Prelude.{◌≡◌, ℕ, List, All, Option, Some, None, Result, ⊤, string_bytes}
use Rattle.std.specs.Option.{option_map, option_and_then}
use Rattle.std.specs.List.{find}
use Rattle.std.specs.Path.{path_buf_bytes}
use Rattle.std.specs.declared.path.PathBuf.{PathBuf}
use Rattle.mgs_model.specs.Names.{same_name}
use Rattle.mgs_config.specs.declared.config.BufferFile.{BufferFile}
use Rattle.mgs_written.specs.Steps.{Step, told, saved, failed_after, IsUnsaved}
use Rattle.mgs_disk.specs.declared.save_places.Place.{Place}

-- the name of a buffer, and the path of its file
abbrev pub row_of : BufferFile → List ℕ × List ℕ
row_of file = (string_bytes file.name, string_bytes file.path)

abbrev pub row_in : Place → List ℕ × List ℕ
row_in place = (string_bytes place.name, string_bytes place.given)

abbrev pub bytes_of : {A : Type 0} → Option (PathBuf A) → Option (List ℕ)
bytes_of path = option_map path_buf_bytes path

-- what is known is so
abbrev pub IsTold : {X : Type 0} → Option X → X → Type 0
IsTold None x = ⊤
IsTold (Some y) x = x ≡ y

-- each file stands where its path led
abbrev pub AreFound : (List ℕ → Option (Option (List ℕ))) → List Place → Type 0
AreFound leads places = All (λ place. IsTold (leads (string_bytes place.given)) (bytes_of place.path)) places

-- the path of the first place of a buffer of this name, where its file was found
abbrev pub saved_at : List ℕ → List Place → Option (List ℕ)
saved_at name places = option_and_then (λ place. option_map path_buf_bytes place.path) (find (λ place. same_name (string_bytes place.name) name) places)

-- A SAVE in the file at a path, where there is one: these bytes came in its place
abbrev pub IsSavedAt : Option (List ℕ) → List ℕ → Option (List Step) → Option (List Step) → Type 0
IsSavedAt None bytes old new = ⊥
IsSavedAt (Some path) bytes old new = new ≡ told (saved path bytes) old

-- one that failed: what stood there stands there still, and nothing was begun where there is no file
abbrev pub IsKeptAt : Option (List ℕ) → List ℕ → Option (List Step) → Option (List Step) → Type 0
IsKeptAt None bytes old new = new ≡ old
IsKeptAt (Some path) bytes old new = IsUnsaved path bytes old new

-- how many steps failed so far, after a save in the file at a path: one more if the save failed, and none where there is no file
abbrev pub failed_at : {V E : Type 0} → Option (List ℕ) → Result V E → ℕ → ℕ
failed_at None result failed = failed
failed_at (Some path) result failed = failed_after result failed
