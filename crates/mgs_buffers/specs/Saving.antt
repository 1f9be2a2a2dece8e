-- What is answered where a buffer is saved, and what the store is handed.
use Rattle.std.specs.Prelude.{◌≡◌, ◌≢◌, ℕ, Bool, true, false, List, [], Result, Ok, Err}
use Rattle.mgs_model.specs.Events.{Saved}
use Rattle.mgs_model.specs.declared.entry.Decision.{Decision}
use Rattle.mgs_model.specs.declared.entry.Decision.TheVariants.{Granted}
use Rattle.mgs_store.specs.Stores.{saved_of}
use Rattle.mgs_buffers.specs.declared.refusals.SaveFault.{SaveFault}
use Rattle.mgs_buffers.specs.declared.refusals.SaveFault.TheVariants.{Denied, NoFile, Store}

-- the rights first, then whether there is a file; the store is asked only where both stand
abbrev pub SaveAnswers : Result (Unit {0}) SaveFault → Decision → Bool → Type 0
SaveAnswers (Ok done) due file = (due ≡ Granted) × (file ≡ true)
SaveAnswers (Err (Denied decision)) due file = (due ≡ decision) × (decision ≢ Granted)
SaveAnswers (Err NoFile) due file = (due ≡ Granted) × (file ≡ false)
SaveAnswers (Err Store) due file = (due ≡ Granted) × (file ≡ true)

-- what a store accepts where it saves, and where not
abbrev pub saves_if : Bool → List ℕ → List ℕ → List Saved
saves_if true name text = saved_of name text
saves_if false name text = []
