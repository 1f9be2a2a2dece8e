-- What is read of files.
use Rattle.std.specs.Prelude.{◌≡◌, ◌≢◌, ◌<◌, ◌≤◌, ℕ, List, Option, Some, None, IfSome, length}
use Rattle.std.specs.Option.{option_map}
use Rattle.std.specs.Str.{chars, IsUtf8}
use Rattle.mgs_config.specs.Document.{document_in}
use Rattle.mgs_config.specs.Files.{AreBuffers}
use Rattle.mgs_config.specs.World.{IsConfigFault, buffer_rows, buffers_fault, directory_in, fault_of, files_in, paths_of, people_refused, users_in}
use Rattle.mgs_config.specs.Configured.{Config}
use Rattle.mgs_config.specs.declared.config_fault.ConfigFault.{ConfigFault}
use Rattle.mgs_config.specs.declared.config_fault.ConfigTable.TheVariants.{Top}
use Rattle.mgs_config.specs.declared.config_fault.TableFault.TheVariants.{File, Short, Toml}

-- the characters of a file's bytes: all of them, or more than a text may have
pub record IsTextIn (bytes text : List ℕ) : Type 0 where
  pub whole : length bytes < 4194308 → text ≡ chars bytes
  pub long : 4194308 ≤ length bytes → 1048576 < length text

-- a text that the file at a path may give, by the bytes that are known of files
abbrev pub GivesText : (List ℕ → Option (List ℕ)) → List ℕ → List ℕ → Type 0
GivesText holds path text = IfSome (holds path) (λ bytes. IsTextIn bytes text)

-- why the configuration in a file of these bytes is refused, if it is for another cause than memory
pub record IsRefusedBy (holds : List ℕ → Option (List ℕ)) (bytes : List ℕ) (e : ConfigFault) : Type 0 where
  pub text : IsUtf8 bytes → IsConfigFault (document_in bytes) (λ path. None) (GivesText holds) e
  pub broken : ¬ (IsUtf8 bytes) → e ≡ fault_of Top (0, Toml)

-- a configuration is what the bytes of a file say, all of them, and the texts of its buffers are those of their files
pub record IsLoaded (holds : List ℕ → Option (List ℕ)) (config : Config) (bytes : List ℕ) : Type 0 where
  pub text : IsUtf8 bytes
  pub people : IfSome (document_in bytes) (λ d. people_refused d ≡ None)
  pub tables : IfSome (document_in bytes) (λ d. buffers_fault (λ path. None) d ≡ None)
  pub directory : Some config.directory ≡ option_map directory_in (document_in bytes)
  pub tickets : Some config.tickets ≡ option_map users_in (document_in bytes)
  pub buffers : IfSome (document_in bytes) (λ d. AreBuffers (λ path. None) (GivesText holds) (buffer_rows d) config.buffers)
  pub files : Some (paths_of config.files.items) ≡ option_map files_in (document_in bytes)

-- so of the file at a path: where its bytes are known, these are what was read
pub record IsLoadedFrom (holds : List ℕ → Option (List ℕ)) (path : List ℕ) (config : Config) : Type 0 where
  pub bytes : List ℕ
  pub read : IfSome (holds path) (λ all. bytes ≡ all)
  pub loaded : IsLoaded holds config bytes

pub record IsRefusedFrom (holds : List ℕ → Option (List ℕ)) (path : List ℕ) (e : ConfigFault) : Type 0 where
  pub bytes : List ℕ
  pub read : IfSome (holds path) (λ all. bytes ≡ all)
  pub refused : IsRefusedBy holds bytes e

-- A fault of what is read at a path. The file itself may not be readable, and memory may be refused at any time; any other fault is one of
-- the document
pub record IsLoadFault (holds : List ℕ → Option (List ℕ)) (path : List ℕ) (e : ConfigFault) : Type 0 where
  pub short : e.fault ≡ Short → e ≡ fault_of Top (0, Short)
  pub refused : e.fault ≢ Short → e ≢ fault_of Top (0, File) → IsRefusedFrom holds path e
