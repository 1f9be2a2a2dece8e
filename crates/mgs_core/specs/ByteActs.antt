-- What is to be done for a byte: which act of the model it is, and what is there again where memory is refused to it.
use Rattle.std.specs.Prelude.{◌≡◌, ℕ, Bool, true, false, List, [], Option, None, Some, is_some, not}
use Rattle.mgs_model.specs.World as model
use Rattle.mgs_model.specs.World.{World}
use Rattle.mgs_model.specs.Outcome.{Act, Run, Unbound}
use Rattle.mgs_model.specs.Commands.{command_for}
use Rattle.mgs_model.specs.Events.{with_state}
use Rattle.mgs_model.specs.declared.echo_text.Message.TheVariants.{Says}
use Rattle.mgs_model.specs.declared.echo_text.Notice.TheVariants.{NoMemory, Silent}
use Rattle.mgs_model.specs.declared.session.Command.TheVariants as commands
use Rattle.mgs_model.specs.declared.session.Command.TheVariants.{LeaveSearch, Seek}
use Rattle.mgs_model.specs.declared.session.Mode.{Mode}
use Rattle.mgs_model.specs.declared.session.Mode.TheVariants.{Searching}
use Rattle.mgs_model.specs.declared.session.Seeking.TheVariants.{SearchOn, SkipMatch, StartReplace}
use Rattle.mgs_model.specs.declared.session.Question.TheVariants.{RunWhich}
use Rattle.mgs_model.specs.declared.search.SearchStep.{SearchStep}
use Rattle.mgs_mini.specs.Typing.{PromptInput}
use Rattle.mgs_mini.specs.declared.Waiting.TheVariants.{NoKey}
use Rattle.mgs_maps.specs.Held.{nothing_held}
use Rattle.mgs_plan.specs.Actions.{act_of, is_answered}
use Rattle.mgs_seek.specs.Replacing.{replacement, replacing_state}
use Rattle.mgs_plan.specs.Searching.{meant}
use Rattle.mgs_session.specs.declared.State.{State}
use Rattle.mgs_session.specs.declared.Session.{Session}
use Rattle.mgs_session.specs.declared.search.Aim.{Aim}
use Rattle.mgs_session.specs.declared.search.Aim.TheVariants.{Find, Replace}
use Rattle.mgs_session.specs.declared.search.Search.{Search}
use Rattle.mgs_session.specs.Sessions.{acted, playing_as, told}
use Rattle.mgs_world.specs.Worlds.{idle}
use Rattle.mgs_core.specs.declared.byte_acts.ByteAct.{ByteAct}
use Rattle.mgs_core.specs.declared.byte_acts.ByteAct.TheVariants as byte_acts
use Rattle.mgs_core.specs.declared.byte_acts.Before.{Before}
use Rattle.mgs_core.specs.declared.byte_acts.ModeBefore.{ModeBefore}
use Rattle.mgs_core.specs.declared.byte_acts.ModeBefore.TheVariants as befores
use Rattle.mgs_core.specs.KeyActs.{is_acted, started_by, started_state, started_world}
use Rattle.mgs_core.specs.declared.byte_acts.Due.{Due}

-- WHAT WAS THERE BEFORE AN ACT OF A BYTE

-- the prompt that was answered, if one was
abbrev pub is_asked : ModeBefore → Bool
is_asked (befores.Prompt p) = true
is_asked _ = false

abbrev pub asked_of : ModeBefore → PromptInput
asked_of (befores.Prompt p) = p
asked_of _ = record { question = RunWhich; first = []; input = []; waiting = NoKey }

-- AN ACT OF A BYTE

-- a step of the search that goes on in a mode
abbrev pub seek_act : Mode → SearchStep → List ℕ → Act
seek_act (Searching d failing) step input = Run (Seek (SearchOn d step)) None input
seek_act _ step input = Unbound

-- which act of the model it is, by a session that holds this, where this was there before
abbrev pub model_act : model.State → ModeBefore → ByteAct → Act
model_act state b (byte_acts.Act a) = act_of a
model_act state b (byte_acts.Answer n) = Run (command_for (asked_of b).question) n (meant (command_for (asked_of b).question) state.pattern (asked_of b).input)
model_act state b (byte_acts.Seek step) = seek_act state.mode step state.input
model_act state b byte_acts.QuitSearch = Run LeaveSearch None []
model_act state b byte_acts.StartReplacing = Run (Seek StartReplace) None (asked_of b).input
model_act state b (byte_acts.Replace last) = Run (commands.Replace (replacement last)) None state.input
model_act state b byte_acts.Skip = Run (Seek SkipMatch) None state.input

-- the record with which it is decided, and the world in which it is: what begins has its mode
abbrev pub deciding_state : ModeBefore → ByteAct → model.State → model.State
deciding_state b (byte_acts.Act a) state = started_state (started_by a) state
deciding_state b (byte_acts.Answer n) state = state
deciding_state b (byte_acts.Seek step) state = state
deciding_state b byte_acts.QuitSearch state = state
deciding_state b byte_acts.StartReplacing state = replacing_state (asked_of b).first (asked_of b).input state
deciding_state b (byte_acts.Replace last) state = state
deciding_state b byte_acts.Skip state = state

abbrev pub deciding_world : ModeBefore → ByteAct → ℕ → World → World
deciding_world b (byte_acts.Act a) id w = started_world (started_by a) id w
deciding_world b (byte_acts.Answer n) id w = w
deciding_world b (byte_acts.Seek step) id w = w
deciding_world b byte_acts.QuitSearch id w = w
deciding_world b byte_acts.StartReplacing id w = with_state id (replacing_state (asked_of b).first (asked_of b).input) w
deciding_world b (byte_acts.Replace last) id w = w
deciding_world b byte_acts.Skip id w = w

-- a query-replace begins, or replaces a match
abbrev pub starts_replacing : ByteAct → Bool
starts_replacing byte_acts.StartReplacing = true
starts_replacing _ = false

abbrev pub is_replacement : ByteAct → Bool
is_replacement (byte_acts.Replace last) = true
is_replacement _ = false

-- what a search is for
abbrev pub finds : Aim → Bool
finds (Find s) = true
finds (Replace r) = false

abbrev pub is_finding : Option Search → Bool
is_finding None = false
is_finding (Some s) = finds s.aim

abbrev pub is_replacing : Option Search → Bool
is_replacing None = false
is_replacing (Some s) = not (finds s.aim)

-- a session with this search that holds this can begin with it: it is at rest, or searches
abbrev pub IsReady : ByteAct → Option Search → model.State → Type 0
IsReady (byte_acts.Act a) s state = state ≡ idle state
IsReady (byte_acts.Answer n) s state = state ≡ idle state
IsReady (byte_acts.Seek step) s state = is_finding s ≡ true
IsReady byte_acts.QuitSearch s state = Unit {0}
IsReady byte_acts.StartReplacing s state = state ≡ idle state
IsReady (byte_acts.Replace last) s state = is_replacing s ≡ true
IsReady byte_acts.Skip s state = is_replacing s ≡ true

-- the server does it: an answer is for a command of its own, and what is answered was there before
abbrev pub CanDo : ModeBefore → ByteAct → Type 0
CanDo b (byte_acts.Act a) = is_acted a ≡ true
CanDo b (byte_acts.Answer n) = (is_asked b ≡ true) × (is_answered (asked_of b).question ≡ true)
CanDo b byte_acts.StartReplacing = is_asked b ≡ true
CanDo b _ = Unit {0}

-- no step of a search takes memory but a replacement
abbrev pub may_want_memory : ByteAct → Bool
may_want_memory (byte_acts.Act a) = not (is_some (started_by a))
may_want_memory (byte_acts.Answer n) = true
may_want_memory (byte_acts.Seek step) = false
may_want_memory byte_acts.QuitSearch = false
may_want_memory byte_acts.StartReplacing = false
may_want_memory (byte_acts.Replace last) = true
may_want_memory byte_acts.Skip = false

-- WHERE MEMORY IS REFUSED TO IT

-- what is there before a turn, with this mode
abbrev pub before_turn : ModeBefore → State → Before
before_turn m state = record { mode = m; kind = state.kind; is_playing = state.player.playing }

-- what a session has of the mode that holds this
abbrev pub prompt_before : ModeBefore → Option PromptInput → Option PromptInput
prompt_before befores.Plain p = None
prompt_before (befores.Prompt q) p = Some q
prompt_before (befores.Search s last) p = None
prompt_before befores.Held p = p

abbrev pub search_before : ModeBefore → Option Search → Option Search
search_before befores.Plain s = None
search_before (befores.Prompt p) s = None
search_before (befores.Search t last) s = Some t
search_before befores.Held s = s

abbrev pub pattern_before : ModeBefore → List ℕ → List ℕ
pattern_before (befores.Search s last) pattern = last
pattern_before _ pattern = pattern

-- nothing is half read, and it is there again
abbrev pub state_before : ModeBefore → State → State
state_before b state =
    record state {
      echo = Says Silent;
      keyboard = nothing_held;
      search = search_before b state.search;
      prompt = prompt_before b state.prompt;
      pattern = pattern_before b state.pattern;
    }

-- the session is told so, has nothing more to do, and what was there before is there again
abbrev pub refused : Before → Session → Session
refused b x =
    let again : Session = record x { state = state_before b.mode x.state } in
    playing_as (record { playing = b.is_playing; todo = [] }) (told (Says NoMemory) (acted b.kind again))

-- the act that is due
abbrev pub act_due : model.State → Due → Act
act_due state due = model_act state due.before.now due.act
