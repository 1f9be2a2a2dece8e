-- One session acts, and nothing else of the world changes but its marks: what its act comes to, and where it may act.
use Rattle.std.specs.Prelude.{◌≡◌, ℕ, Bool, true, false, List, Option, None, Some, Result, Err, cond}
use Rattle.mgs_model.specs.Access.{Directory}
use Rattle.mgs_model.specs.Acts.{fails, outcome}
use Rattle.mgs_model.specs.Apply.{session_arranged}
use Rattle.mgs_model.specs.Events.{state_set}
use Rattle.mgs_model.specs.Outcome.{Act, No_effect, Outcome, Run}
use Rattle.mgs_model.specs.SearchCommands.{AroundSearch, SearchFinish, seek}
use Rattle.mgs_model.specs.View.{view}
use Rattle.mgs_model.specs.World.{State}
use Rattle.mgs_model.specs.World as model
use Rattle.mgs_model.specs.declared.echo_text.Message.{Message}
use Rattle.mgs_model.specs.declared.echo_text.Message.TheVariants.{Says}
use Rattle.mgs_model.specs.declared.echo_text.Notice.TheVariants.{NoBuffer}
use Rattle.mgs_model.specs.declared.session.Command.{Command}
use Rattle.mgs_model.specs.declared.session.Command.TheVariants.{Replace, Seek}
use Rattle.mgs_model.specs.declared.session.Replacement.{Replacement}
use Rattle.mgs_model.specs.declared.session.Seeking.{Seeking}
use Rattle.mgs_model.specs.declared.session.Seeking.TheVariants.{StartReplace}
use Rattle.mgs_buffers.specs.MarkedBuffer.{MarkedBuffer}
use Rattle.mgs_windows.specs.declared.WindowMarks.{WindowMarks}
use Rattle.mgs_session.specs.Seeking.{is_search_in}
use Rattle.mgs_session.specs.Sessions.{window_marks_of}
use Rattle.mgs_session.specs.declared.Session.{Session}
use Rattle.mgs_plan.specs.Actions.{AreMarks}
use Rattle.mgs_plan.specs.Deciding.{IsGranted}
use Rattle.mgs_seek.specs.Replacing.{replacement, replacing_state}
use Rattle.mgs_world.specs.Worlds.{state_of, session_of, world_of}

-- a session as it is seen, and with what begins
abbrev pub as_is : model.Session → model.Session
as_is x = x

-- what its act comes to is what is arranged in it, and has no other effect
pub record Does (d : Directory) (ks ls : List MarkedBuffer) (x y : Session) (seen : model.Session → model.Session) (c : Act) : Type 0 where
  pub left : Outcome
  pub quiet : left.effect ≡ No_effect
  pub known : (xs : List Session) (next : Option ℕ) → outcome (view (world_of d ks xs next) (seen (session_of ks x))) c true ≡ left
  pub does : session_of ls y ≡ session_arranged left (seen (session_of ks x))

-- it begins to replace a pattern
abbrev pub DoesStart : Directory → List MarkedBuffer → List MarkedBuffer → Session → Session → List ℕ → List ℕ → Type 0
DoesStart d ks ls x y pattern put = Does d ks ls x y (state_set (replacing_state pattern put)) (Run (Seek StartReplace) None put)

-- WHERE IT ACTS: it reads the text, or writes it too
abbrev pub text_mask : Bool → ℕ
text_mask writes = cond writes 3 1

abbrev pub command_of : Bool → Seeking → Replacement → Command
command_of false c k = Seek c
command_of true c k = Replace k

pub record IsTarget (d : Directory) (ks : List MarkedBuffer) (h : Session) (writes : Bool) (x : WindowMarks) : Type 0 where
  pub sel : window_marks_of h ≡ Some x
  pub marks : AreMarks ks x
  pub granted : IsGranted d ks h.user x.name (text_mask writes)

-- its search is there
pub record IsSought (d : Directory) (ks : List MarkedBuffer) (h : Session) (writes : Bool) (x : WindowMarks) : Type 0 where
  pub target : IsTarget d ks h writes x
  pub here : is_search_in x.name h.state.search ≡ true

-- every act fails by which it reads, or writes
abbrev pub Fails : Directory → List MarkedBuffer → Session → Bool → Message → Type 0
Fails d ks h writes message = (c : Seeking) (k : Replacement) (xs : List Session) (next : Option ℕ) (state : State) (search : Option model.Search) (n : Option ℕ) (typed : List ℕ)
    → (let y : model.Session = record (session_of ks h) { search = search; state = state } in outcome (view (world_of d ks xs next) y) (Run (command_of writes c k) n typed) true ≡ fails state message)

-- every act by which its search goes on, or replaces
abbrev pub SearchFails : Directory → List MarkedBuffer → Session → Bool → Message → Type 0
SearchFails d ks h writes message = (c : Seeking) (last : Bool) (xs : List Session) (next : Option ℕ) (typed : List ℕ)
    → ((text : List ℕ) (a : AroundSearch) → Path (Result SearchFinish Message) (seek c text (record a { sought_here = false })) (Err (Says NoBuffer)))
    → outcome (view (world_of d ks xs next) (session_of ks h)) (Run (command_of writes c (replacement last)) None typed) true ≡ fails (state_of h.state) message
