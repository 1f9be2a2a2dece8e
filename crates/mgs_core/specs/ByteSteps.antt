-- What a byte makes of a session by itself, and what it asks for beside.
use Rattle.std.specs.Prelude.{◌≡◌, ◌≤◌, ◌<◌, ◌+◌, ◌==◌, nat_lt, ℕ, Bool, true, false, List, [], Option, None, Some, length, ◌||◌, if◌then◌else◌, cond}
use Rattle.mgs_model.specs.Access.{Directory}
use Rattle.mgs_model.specs.World as model
use Rattle.mgs_model.specs.World.{World, Buffer, Todo}
use Rattle.mgs_model.specs.View.{View}
use Rattle.mgs_model.specs.Outcome.{Act, Run}
use Rattle.mgs_model.specs.Apply.{is_search_mode}
use Rattle.mgs_model.specs.Acts.{fails, outcome, without_all}
use Rattle.mgs_model.specs.Plans.{count_of, failed_state, kind_failed}
use Rattle.mgs_model.specs.Turns.{Turn, Keep, Do, first_played, todo_turn}
use Rattle.mgs_model.specs.Events.{refused_state}
use Rattle.mgs_births.specs.Reports.{act_reports}
use Rattle.mgs_births.specs.Telling.{StoreTold, Tells}
use Rattle.mgs_model.specs.declared.errors.Keyed.{Keyed}
use Rattle.mgs_model.specs.declared.errors.Keyed.TheVariants.{Done, Quit}
use Rattle.mgs_model.specs.declared.touched.Touched.{Touched}
use Rattle.mgs_model.specs.declared.touched.Touched.TheVariants.{Anywhere, Nowhere}
use Rattle.mgs_model.specs.declared.echo_text.Message.{Message}
use Rattle.mgs_model.specs.declared.echo_text.Message.TheVariants.{Says}
use Rattle.mgs_model.specs.declared.echo_text.Notice.TheVariants.{InMacro, NoMacro, NoSuchCommand, TooMany}
use Rattle.mgs_model.specs.declared.session.Command.{Command}
use Rattle.mgs_model.specs.declared.session.Command.TheVariants.{Set, Exit}
use Rattle.mgs_model.specs.declared.session.Question.{Question}
use Rattle.mgs_model.specs.declared.session.Question.TheVariants.{RunWhich, ReplaceWhat, ReplaceWith}
use Rattle.mgs_model.specs.declared.session.Setting.TheVariants.{CallMacro}
use Rattle.mgs_model.specs.declared.session.Kind.{Kind}
use Rattle.mgs_model.specs.declared.session.Kind.TheVariants.{Other}
use Rattle.mgs_model.specs.declared.limits.TheConstants.{REPETITION_LIMIT}
use Rattle.mgs_model.specs.Completion.{shown_names}
use Rattle.mgs_mini.specs.Narrowing.{granted_names}
use Rattle.mgs_model.specs.Commands.{find_command}
use Rattle.mgs_model.specs.Keys.{value_of}
use Rattle.mgs_mini.specs.Typing.{PromptInput}
use Rattle.mgs_mini.specs.declared.Waiting.TheVariants.{NoKey}
use Rattle.mgs_maps.specs.Held.{is_bound}
use Rattle.mgs_buffers.specs.MarkedBuffer.{MarkedBuffer}
use Rattle.mgs_session.specs.declared.State.{State}
use Rattle.mgs_session.specs.declared.Session.{Session}
use Rattle.mgs_session.specs.declared.search.Aim.{Aim}
use Rattle.mgs_session.specs.Seeking.{searching}
use Rattle.mgs_session.specs.declared.search.Search.{Search}
use Rattle.mgs_session.specs.Playing.{Playing, are_behind, are_played}
use Rattle.mgs_session.specs.Sessions.{failed, macro_called, prompting, resting}
use Rattle.mgs_world.specs.Worlds.{buffers_of, state_of, search_of}
use Rattle.mgs_core.specs.declared.byte_acts.ByteAct.{ByteAct}
use Rattle.mgs_core.specs.declared.byte_acts.ByteAct.TheVariants as byte_acts
use Rattle.mgs_core.specs.declared.byte_acts.ModeBefore.{ModeBefore}
use Rattle.mgs_core.specs.declared.byte_acts.ModeBefore.TheVariants as befores
use Rattle.mgs_core.specs.declared.key_byte.ByteStep.{ByteStep}
use Rattle.mgs_core.specs.declared.key_byte.ByteStep.TheVariants.{Kept, Failed, Ends, Acts}
use Rattle.mgs_core.specs.declared.typed_byte.ReplaceKey.{ReplaceKey}
use Rattle.mgs_core.specs.declared.typed_byte.SearchPlace.{SearchPlace}
use Rattle.mgs_core.specs.declared.typed_byte.ReplaceKey.TheVariants as keys
use Rattle.mgs_core.specs.Prompted.{state_turn}
use Rattle.mgs_core.specs.KeyActs.{command_act}
use Rattle.mgs_core.specs.ByteActs.{CanDo, IsReady, before_turn, deciding_state, is_replacement, may_want_memory, model_act, refused, search_before, starts_replacing}
use Rattle.mgs_core.specs.Turns.{IsFit, IsWithin, has_all, is_played, is_quiet, weight}

-- WHAT IS LEFT TO DO

-- a byte of a macro leaves no more but all further replacements, and one that was typed leaves what a macro has at most
pub record IsLeft (old : Playing) (todo : List Todo) : Type 0 where
  pub played : old.playing ≡ true → (n : ℕ) → IsWithin n old.todo → IsWithin (1048577 + n) todo
  pub typed : old.playing ≡ false → IsWithin 53689341957 todo
  pub behind : old.playing ≡ true → are_behind todo ≡ true

-- nothing is to be done behind a byte that was typed, and all of a macro behind one of its bytes
pub record IsAlone (p : Playing) : Type 0 where
  pub typed : p.playing ≡ false → p.todo ≡ []
  pub played : are_played p.todo ≡ true

-- a search that goes on has the positions that it had, in any texts
abbrev pub SearchStays : State → State → Type 0
SearchStays old new = (bs : List Buffer) → search_of bs new.search ≡ cond (is_search_mode (state_of new).mode) (search_of bs old.search) None

-- A STEP of a session, which sees what is seen and to which this comes next. It `plays` what a macro has, or else does what was typed; and
-- `Left` holds of what is left to do

-- what the session holds changed alone
pub record StepKept (Sees : View → Type 0) (comes : View → Turn) (Left : List Todo → Type 0) (old new : Session) : Type 0 where
  pub state : new ≡ record old { state = new.state }
  pub stays : SearchStays old.state new.state
  pub turn : (v : View) → Sees v → comes v ≡ Keep (state_of new.state)
  pub left : Left new.state.player.todo
  pub fit : IsFit (state_of new.state)

-- what comes next is an act that fails, which breaks a run of commands
pub record StepFailed (Sees : View → Type 0) (comes : View → Turn) (plays : Bool) (old new : Session) : Type 0 where
  pub state : new ≡ record old { state = new.state }
  pub stays : SearchStays old.state new.state
  pub before : model.State
  pub act : Act
  pub message : Message
  pub turn : (v : View) → Sees v → comes v ≡ Do before act
  pub playing : before.playing ≡ plays
  pub fails : (v : View) (k : Kind) → v.session.state ≡ record before { kind = k } → outcome v act true ≡ fails v.session.state message
  pub breaks : (k : Kind) → kind_failed message k ≡ Other
  pub quiet : (w : World) (id : ℕ) (t : StoreTold) → Tells (act_reports w id act true) t t
  pub told : state_of new.state ≡ failed_state message before

-- or the session's end, which was typed
pub record StepEnds (Sees : View → Type 0) (comes : View → Turn) (plays : Bool) (old new : Session) : Type 0 where
  pub state : new ≡ record old { state = new.state }
  pub stays : SearchStays old.state new.state
  pub before : model.State
  pub argument : Option ℕ
  pub turn : (v : View) → Sees v → comes v ≡ Do before (Run Exit argument [])
  pub quiet : before.playing ≡ false
  pub typed : plays ≡ false

-- further replacements are to be done behind a replacement alone, and its end leaves none of them
abbrev pub IsFurther : ByteAct → List Todo → Type 0
IsFurther byte_act todo = has_all todo ≡ true → (is_replacement byte_act ≡ true) × (has_all (without_all todo) ≡ false)

-- or this act, before which this was there, and for which the session is ready; where memory is refused to it, it leaves what the model says
pub record StepActs (Sees : View → Type 0) (comes : View → Turn) (plays : Bool) (Left : List Todo → Type 0) (old new : Session) (b : ModeBefore) (byte_act : ByteAct) : Type 0 where
  pub state : new ≡ record old { state = new.state }
  pub stays : SearchStays old.state new.state
  pub ready : IsReady byte_act new.state.search (state_of new.state)
  pub here : CanDo b byte_act
  pub turn : (v : View) → Sees v → comes v ≡ Do (deciding_state b byte_act (state_of new.state)) (model_act (state_of new.state) b byte_act)
  pub playing : plays ≡ true → is_quiet new.state.player.playing (model_act (state_of new.state) b byte_act) ≡ true
  pub typed : plays ≡ false → new.state.player.todo ≡ []
  pub left : Left new.state.player.todo
  pub again : may_want_memory byte_act ≡ true → state_of (refused (before_turn b old.state) new).state ≡ refused_state (state_of old.state)
  pub search : may_want_memory byte_act ≡ true → search_before b new.state.search ≡ old.state.search
  pub fit : IsFit (state_of new.state)
  pub begins : starts_replacing byte_act ≡ true → old.state.search ≡ None
  pub further : IsFurther byte_act new.state.player.todo

abbrev pub IsStep : (View → Type 0) → (View → Turn) → Bool → (List Todo → Type 0) → Session → Session → ModeBefore → ByteStep → Type 0
IsStep Sees comes playing Left old new b Kept = StepKept Sees comes Left old new
IsStep Sees comes playing Left old new b Failed = StepFailed Sees comes playing old new
IsStep Sees comes playing Left old new b Ends = StepEnds Sees comes playing old new
IsStep Sees comes playing Left old new b (Acts byte_act) = StepActs Sees comes playing Left old new b byte_act

-- what a user sees of the names of these buffers
abbrev pub SeesNames : Directory → List MarkedBuffer → List ℕ → View → Type 0
SeesNames directory ks user v = shown_names v ≡ granted_names directory user (buffers_of ks)

-- A BYTE
abbrev pub IsByteStep : Directory → List MarkedBuffer → Session → Session → ℕ → ModeBefore → ByteStep → Type 0
IsByteStep directory ks old new byte b step =
    IsStep (SeesNames directory ks old.user) (λ v. state_turn v old.state byte) old.state.player.playing (IsLeft old.state.player) old new b step

-- the same of a search that was taken out of the session, for any directory and texts
abbrev pub IsSearchStep : Search → Session → Session → ℕ → ModeBefore → ByteStep → Type 0
IsSearchStep s old new byte b step = (directory : Directory) → (ks : List MarkedBuffer) → IsByteStep directory ks (searching s old) new byte b step

-- A TURN
abbrev pub replaces : ByteStep → Bool
replaces (Acts byte_act) = is_replacement byte_act
replaces _ = false

-- less is left, or all further replacements go on by one
pub record TurnLeft (replaces : Bool) (old new : List Todo) : Type 0 where
  pub played : is_played new ≡ true
  pub less : has_all old ≡ false → weight 1048576 new < weight 1048576 old
  pub same : has_all old ≡ true → (replaces ≡ true) × (new ≡ old) × (has_all (without_all old) ≡ false)

abbrev pub IsTurnStep : Directory → List MarkedBuffer → Session → Session → ModeBefore → ByteStep → Type 0
IsTurnStep directory ks old new b step =
    IsStep (SeesNames directory ks old.user) (λ v. todo_turn v (state_of old.state) old.state.player.todo) (is_played old.state.player.todo) (TurnLeft (replaces step) old.state.player.todo) old new b step

-- what is answered of a step that asks for no act, and what it touched
abbrev pub keyed_without_act : ByteStep → Keyed
keyed_without_act Ends = Quit
keyed_without_act _ = Done

abbrev pub touched_without_act : ByteStep → Touched
touched_without_act Ends = Anywhere
touched_without_act _ = Nowhere

-- the first act of a play, or none of it
abbrev pub IsFirstStep : Directory → List MarkedBuffer → model.State → Session → Session → ℕ → ModeBefore → ByteStep → Type 0
IsFirstStep directory ks state old new byte b step =
    IsStep (SeesNames directory ks old.user) (λ v. first_played state (state_turn v old.state byte)) true (IsWithin (1048578 + weight 1048576 old.state.player.todo)) old new b step

-- A COMMAND of a session at rest

abbrev pub is_exit : Command → Bool
is_exit Exit = true
is_exit _ = false

abbrev pub is_call : Command → Bool
is_call (Set CallMacro) = true
is_call _ = false

-- why a macro cannot be played so many times
abbrev pub call_fault : State → Option ℕ → Option Message
call_fault o n =
    if o.recorder.recording || o.player.playing then Some (Says InMacro)
    else if length o.recorder.macro == 0 then Some (Says NoMacro)
    else if nat_lt REPETITION_LIMIT (count_of n) then Some (Says TooMany)
    else None

-- why a command fails whose turn the server takes itself
abbrev pub fault_of : State → Command → Option ℕ → Option Message
fault_of o Exit n = cond o.player.playing (Some (Says InMacro)) None
fault_of o (Set CallMacro) n = call_fault o n
fault_of o _ n = None

pub record CommandFailed (old new : Session) (c : Command) (n : Option ℕ) : Type 0 where
  pub message : Message
  pub fault : fault_of old.state c n ≡ Some message
  pub told : new ≡ failed message old

pub record MacroPlayed (old new : Session) (n : Option ℕ) : Type 0 where
  pub fault : call_fault old.state n ≡ None
  pub within : length old.state.recorder.macro ≤ 512
  pub called : new ≡ macro_called (count_of n) old

abbrev pub IsCommandStep : Session → Session → Command → Option ℕ → ByteStep → Type 0
IsCommandStep old new c n Kept = (is_call c ≡ true) × MacroPlayed old new n
IsCommandStep old new c n Failed = CommandFailed old new c n
IsCommandStep old new c n Ends = (is_exit c ≡ true) × (old.state.player.playing ≡ false) × (new ≡ old)
IsCommandStep old new c n (Acts (byte_acts.Act a)) = (is_exit c ≡ false) × (is_call c ≡ false) × (a ≡ command_act c n) × (new ≡ old)
IsCommandStep old new c n (Acts _) = ⊥

-- a key asks for an act of a key alone
abbrev pub is_act : ByteAct → Bool
is_act (byte_acts.Act a) = true
is_act _ = false

abbrev pub is_keyed : ByteStep → Bool
is_keyed Kept = true
is_keyed Failed = true
is_keyed Ends = true
is_keyed (Acts byte_act) = is_act byte_act

-- AN ANSWER, whose prompt was taken out of the session: it names a command, or is what the question is for. Where an act comes of it, this
-- prompt is what was there before

abbrev pub IsNamedStep : Session → Session → PromptInput → ModeBefore → Option Command → ByteStep → Type 0
IsNamedStep old new p b None step = (step ≡ Kept) × (new ≡ failed (Says NoSuchCommand) old)
IsNamedStep old new p b (Some c) step = (is_bound c ≡ true) × (b ≡ befores.Prompt p) × IsCommandStep (resting old) new c (value_of old.state.keyboard.argument) step

-- the second question is asked, where the first was answered so
abbrev pub second_input : List ℕ → PromptInput
second_input first = record { question = ReplaceWith; first = first; input = []; waiting = NoKey }

abbrev pub IsAskedStep : Session → Session → PromptInput → ModeBefore → ByteAct → ByteStep → Type 0
IsAskedStep old new p b byte_act step = (step ≡ Acts byte_act) × (b ≡ befores.Prompt p) × (new ≡ resting old)

abbrev pub IsReplyStep : Question → Session → Session → PromptInput → ModeBefore → ByteStep → Type 0
IsReplyStep RunWhich old new p b step = IsNamedStep old new p b (find_command p.input) step
IsReplyStep ReplaceWhat old new p b step = (step ≡ Kept) × (new ≡ prompting (second_input p.input) old)
IsReplyStep ReplaceWith old new p b step = IsAskedStep old new p b byte_acts.StartReplacing step
IsReplyStep _ old new p b step = IsAskedStep old new p b (byte_acts.Answer (value_of old.state.keyboard.argument)) step

abbrev pub IsAnswerStep : Session → Session → PromptInput → ModeBefore → ByteStep → Type 0
IsAnswerStep old new p b step = IsReplyStep p.question old new p b step

-- A BYTE OF A QUERY-REPLACE

abbrev pub replace_key : ℕ → ReplaceKey
replace_key byte =
    if (byte == 121) || (byte == 32) then keys.Replaces false
    else if byte == 46 then keys.Replaces true
    else if (byte == 110) || (byte == 127) then keys.Skips
    else if byte == 33 then keys.ReplacesAll
    else if (byte == 113) || (byte == 13) then keys.Ends
    else if byte == 7 then keys.Quits
    else keys.Other

-- a search at a place
abbrev pub search_for : SearchPlace → Aim → Search
search_for place a = record { name = place.name; origin = place.origin; anchor = place.anchor; aim = a }
