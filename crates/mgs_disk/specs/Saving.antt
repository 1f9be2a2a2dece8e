-- A store of files.
use Rattle.std.specs.Prelude.{ℕ, List, Option, map}
use Rattle.mgs_written.specs.Steps.{Step}
use Rattle.mgs_disk.specs.Places.{row_in, saved_at}
use Rattle.mgs_disk.specs.declared.save_places.Place.{Place}
use Rattle.mgs_disk.specs.declared.file_store.FileStore.{FileStore}

-- where its buffers are saved
abbrev pub places_in : {D : Type 0} → FileStore D → List Place
places_in store = store.places.items

-- their names, and the paths that were named
abbrev pub rows_in : {D : Type 0} → FileStore D → List (List ℕ × List ℕ)
rows_in store = map row_in (places_in store)

-- the path where the buffer of a name is saved
abbrev pub file_of : {D : Type 0} → List ℕ → FileStore D → Option (List ℕ)
file_of name store = saved_at name (places_in store)

-- the steps that were done on its disk, where they are told
abbrev pub steps_of : {D : Type 0} → (D → Option (List Step)) → FileStore D → Option (List Step)
steps_of done store = done store.disk

-- how many steps failed there
abbrev pub failures_of : {D : Type 0} → (D → ℕ) → FileStore D → ℕ
failures_of failed store = failed store.disk
