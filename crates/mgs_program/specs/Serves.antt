-- A configuration that is served.
use Rattle.std.specs.Prelude.{◌≡◌, ◌≢◌, ℕ, List, [], Option}
use Rattle.mgs_model.specs.Events.{Saved}
use Rattle.mgs_births.specs.Telling.{first_told}
use Rattle.mgs_command.specs.declared.preparation.TheConstants.{FAILED, NO_SOCKETS}
use Rattle.mgs_config.specs.World.{paths_of}
use Rattle.mgs_config.specs.Configured.{Config}
use Rattle.mgs_written.specs.Steps.{Step}
use Rattle.mgs_disk.specs.Places.{AreFound}
use Rattle.mgs_disk.specs.Saving.{places_in, rows_in, steps_of}
use Rattle.mgs_disk.specs.declared.file_store.FileStore.{FileStore}
use Rattle.mgs_server.specs.Listening.{EngineListening, at_first, first_world}
use Rattle.mgs_program.specs.declared.service.StartFault.{StartFault}
use Rattle.mgs_program.specs.declared.service.StartFault.TheVariants.{Store, Listen}

-- the status where nothing is served
abbrev pub start_status : StartFault → ℕ
start_status (Store fault) = FAILED
start_status (Listen fault) = NO_SOCKETS

-- The world of a configuration is served to its users, nobody of whom is there yet. The store where it saves has the configuration's files
-- and no others, each where its path led, and did nothing on its disk so far.
pub record Serves {D : Type 0} (failed : FileStore D → ℕ) (accepted : FileStore D → Option (List Saved)) (leads : List ℕ → Option (Option (List ℕ)))
    (done : D → Option (List Step)) (before : Option (List Step)) (config : Config) (port : ℕ) (server : EngineListening) : Type 0 where
  pub store : FileStore D
  pub named : rows_in store ≡ paths_of config.files.items
  pub found : AreFound leads (places_in store)
  pub untouched : steps_of done store ≡ before
  pub serving : server.serving ≡ at_first (first_world config.directory config.buffers) (first_told failed accepted store)
  pub tickets : server.tickets ≡ config.tickets
  pub nobody : server.peers ≡ []
  pub listens : port ≢ 0 → server.port ≡ port

-- so on a disk as it is
abbrev pub ServedOn : {D : Type 0} → (FileStore D → ℕ) → (FileStore D → Option (List Saved)) → (D → List ℕ → Option (Option (List ℕ))) → (D → Option (List Step)) → D → Config → ℕ → EngineListening → Type 0
ServedOn failed accepted leads done disk config port server = Serves failed accepted (leads disk) done (done disk) config port server
