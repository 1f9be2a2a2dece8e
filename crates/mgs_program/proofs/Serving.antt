-- A configuration is served.
use Rattle.std.proofs.Common.{◌≡◌, ℕ, List, [], Option}
use Rattle.std.specs.Prelude.{◌≢◌}
use Rattle.mgs_model.specs.Events.{Saved}
use Rattle.mgs_births.specs.Telling.{first_told}
use Rattle.mgs_config.specs.World.{paths_of}
use Rattle.mgs_config.specs.Configured.{Config}
use Rattle.mgs_written.specs.Steps.{Step}
use Rattle.mgs_disk.specs.Places.{AreFound}
use Rattle.mgs_disk.specs.Saving.{places_in, rows_in, steps_of}
use Rattle.mgs_disk.specs.declared.file_store.FileStore.{FileStore}
use Rattle.mgs_server.specs.Listening.{EngineListening, at_first, first_world}
use Rattle.mgs_program.specs.Serves.{Serves}

-- with this store
pub served : {D : Type 0} (store : FileStore D) (failed : FileStore D → ℕ) (accepted : FileStore D → Option (List Saved)) (leads : List ℕ → Option (Option (List ℕ)))
    (done : D → Option (List Step)) (before : Option (List Step)) (config : Config) (port : ℕ) (server : EngineListening)
    → rows_in store ≡ paths_of config.files.items → AreFound leads (places_in store) → steps_of done store ≡ before
    → server.serving ≡ at_first (first_world config.directory config.buffers) (first_told failed accepted store) → server.tickets ≡ config.tickets → server.peers ≡ []
    → (port ≢ 0 → server.port ≡ port) → Serves failed accepted leads done before config port server
served store failed accepted leads done before config port server named found untouched serving tickets nobody listens =
    record { store = store; named = named; found = found; untouched = untouched; serving = serving; tickets = tickets; nobody = nobody; listens = listens }
