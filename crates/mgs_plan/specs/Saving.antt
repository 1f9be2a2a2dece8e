-- What a save comes to.
use Rattle.std.specs.Prelude.{◌≡◌, ℕ, Bool, true, false, not, List, if◌then◌else◌}
use Rattle.mgs_model.specs.Access.{Directory}
use Rattle.mgs_model.specs.World.{State}
use Rattle.mgs_model.specs.Outcome.{Outcome, Keep_kill, Stay, Save}
use Rattle.mgs_model.specs.Plans.{acted_state}
use Rattle.mgs_model.specs.Acts.{fails, permitted}
use Rattle.mgs_model.specs.declared.entry.Decision.{Decision}
use Rattle.mgs_model.specs.declared.echo_text.Message.{Message}
use Rattle.mgs_model.specs.declared.echo_text.Message.TheVariants.{Says, Wrote}
use Rattle.mgs_model.specs.declared.echo_text.Notice.TheVariants.{InMacro, NoFile, SaveFailed}
use Rattle.mgs_buffers.specs.MarkedBuffer.{MarkedBuffer, marked_at}
use Rattle.mgs_plan.specs.Inserting.{rights_decision}

-- what it comes to once the store has answered
abbrev pub save_answered : State → List ℕ → List ℕ → Bool → Outcome
save_answered state name text false = fails state (Says SaveFailed)
save_answered state name text true =
    record { state = record (acted_state state) { echo = Wrote name }; kill = Keep_kill; arrange = Stay; effect = Save name text }

-- what it comes to in a buffer, by what is decided on the rights: none is done while a macro plays
abbrev pub save_decided : Bool → State → List ℕ → List ℕ → Bool → Decision → Bool → Outcome
save_decided playing state name text file d stored =
    permitted state d (if playing then fails state (Says InMacro) else if not file then fails state (Says NoFile) else save_answered state name text stored)

-- what it comes to for a user, where a macro plays and where none does
abbrev pub save_outcome : Directory → List ℕ → List ℕ → List MarkedBuffer → Bool → State → Bool → Outcome
save_outcome directory user name ks playing state stored =
    save_decided playing state name (marked_at name ks).buffer.text (marked_at name ks).buffer.file (rights_decision directory ks user name 3) stored

-- that this is told whatever the store would answer, or that the store's answer is all that is left
abbrev pub IsSaveRefused : Directory → List ℕ → List ℕ → List MarkedBuffer → Bool → Message → Type 0
IsSaveRefused directory user name ks playing message = (state : State) (stored : Bool) → save_outcome directory user name ks playing state stored ≡ fails state message

abbrev pub IsSaveLeft : Directory → List ℕ → List ℕ → List MarkedBuffer → Bool → Type 0
IsSaveLeft directory user name ks playing =
    (state : State) (stored : Bool) → save_outcome directory user name ks playing state stored ≡ save_answered state name (marked_at name ks).buffer.text stored
