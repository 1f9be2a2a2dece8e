-- EVENTS, one step of the world, and runs.
use Rattle.std.specs.Prelude.{ℕ, zero, suc, ◌+◌, ◌-◌, ◌^◌, max, nat_le, Bool, true, false, not, ◌&&◌, if◌then◌else◌, List, [], ◌∷◌, ◌++◌, map, find, length, Option, Some, None, is_some, cond}
use Rattle.std.specs.List.{flat_map, fold}
use Rattle.std.specs.Option.{option_or}
use Rattle.mgs_model.specs.Access.{Directory, is_among}
use Rattle.mgs_model.specs.Lines.{settled_top}
use Rattle.mgs_model.specs.World.{World, Buffer, Session, Window, State, Typed, first_state, Shows, Nothing, Buffer_of, has_id, find_session, find_buffer, may}
use Rattle.mgs_model.specs.Outcome.{Act, Outcome, Effect, Save}
use Rattle.mgs_model.specs.Apply.{is_search_mode, change_first, outcome_in, act, without_session}
use Rattle.mgs_model.specs.View.{View, view_of}
use Rattle.mgs_model.specs.Turns.{Turn, Rest, Keep, Do, next}
use Rattle.mgs_model.specs.declared.right.Right.TheVariants.{ReadData, ReadAttributes}
use Rattle.mgs_model.specs.declared.echo_text.Message.TheVariants.{Says}
use Rattle.mgs_model.specs.declared.echo_text.Notice.TheVariants.{NoMemory, MacroTooLong}
use Rattle.mgs_model.specs.declared.session.Kind.TheVariants.{Other}
use Rattle.mgs_model.specs.declared.errors.OpenFault.{OpenFault}
use Rattle.mgs_model.specs.declared.errors.OpenFault.TheVariants.{NoUser, Size, Full}
use Rattle.mgs_model.specs.declared.limits.TheConstants.{COLS_MAX, COLS_MIN, MACRO_LIMIT, ROWS_MAX, ROWS_MIN, SESSION_LIMIT}

pub data Event : Type 0 where
  Open : (id : ℕ) → (user : List ℕ) → (rows : ℕ) → (cols : ℕ) → Event
  -- a byte, the store's answer to a save, and after how many acts memory was refused, if it was
  Byte : (id : ℕ) → (byte : ℕ) → (stored : Bool) → (stop : Option ℕ) → Event
  Close : (id : ℕ) → Event

-- SETTLING: the top of a window whose text its user may read goes where the point's line is among the rows

abbrev pub top_settled : Directory → List ℕ → Option Buffer → ℕ → ℕ → ℕ → ℕ
top_settled directory user None height top point = top
top_settled directory user (Some b) height top point = cond (may directory user ReadData b) (settled_top height top point b.text) top

abbrev pub window_top : Directory → List Buffer → List ℕ → Shows → ℕ → ℕ → ℕ → ℕ
window_top directory buffers user (Buffer_of name) height top point = top_settled directory user (find_buffer name buffers) height top point
window_top directory buffers user _ height top point = top

abbrev pub window_settled : Directory → List Buffer → List ℕ → Window → Window
window_settled directory buffers user x =
    record { shows = x.shows; point = x.point; mark = x.mark; top = window_top directory buffers user x.shows x.height x.top x.point; row = x.row; height = x.height }

abbrev pub session_settled : Directory → List Buffer → Session → Session
session_settled directory buffers x = record x { windows = map (window_settled directory buffers x.user) x.windows }

abbrev pub settled : World → World
settled w = record w { sessions = map (session_settled w.directory w.buffers) w.sessions }

-- OPENING

-- a window at first shows the first buffer whose attributes its user may read
abbrev pub first_shows : Option Buffer → Shows
first_shows None = Nothing
first_shows (Some b) = Buffer_of b.name

abbrev pub new_window : Directory → List Buffer → List ℕ → ℕ → Window
new_window directory buffers user rows =
    record { shows = first_shows (find (may directory user ReadAttributes) buffers); point = 0; mark = None; top = 0; row = 0; height = rows - 2 }

abbrev pub new_session : Directory → List Buffer → ℕ → List ℕ → ℕ → ℕ → Session
new_session directory buffers id user rows cols =
    record {
      id = id;
      user = user;
      rows = rows;
      cols = cols;
      windows = new_window directory buffers user rows ∷ [];
      selected = 0;
      places = [];
      search = None;
      kill = [];
      state = first_state;
    }

abbrev pub is_size : ℕ → ℕ → Bool
is_size rows cols = nat_le ROWS_MIN rows && (nat_le rows ROWS_MAX && (nat_le COLS_MIN cols && nat_le cols COLS_MAX))

abbrev pub is_open : ℕ → World → Bool
is_open id w = is_some (find_session id w.sessions)

-- why the world takes no such session: no user of the directory, no size of a screen, or as many sessions are open as can be
abbrev pub session_fault : World → List ℕ → ℕ → ℕ → Option OpenFault
session_fault w user rows cols =
    if not (is_among user w.directory.users) then Some NoUser
    else if not (is_size rows cols) then Some Size
    else if nat_le SESSION_LIMIT (length w.sessions) then Some Full
    else None

-- it takes one under any id that is not open
abbrev pub can_open : World → ℕ → List ℕ → ℕ → ℕ → Bool
can_open w id user rows cols = not (is_some (session_fault w user rows cols)) && not (is_open id w)

abbrev pub id_end : ℕ
id_end = 2 ^ 64

-- why an open is refused that takes the next id: the session's own fault, or that no id is left
abbrev pub open_fault : World → List ℕ → ℕ → ℕ → Option OpenFault
open_fault w user rows cols =
    option_or (session_fault w user rows cols) (if nat_le id_end w.next_id then Some Full else None)

abbrev pub opened : World → ℕ → List ℕ → ℕ → ℕ → World
opened w id user rows cols =
    record w { sessions = w.sessions ++ new_session w.directory w.buffers id user rows cols ∷ []; next_id = max w.next_id (id + 1) }

-- A BYTE'S TURNS

-- a session's state alone changes; the positions of a search go with its mode
abbrev pub state_set : (State → State) → Session → Session
state_set f x = record x { search = cond (is_search_mode (f x.state).mode) x.search None; state = f x.state }

abbrev pub with_state : ℕ → (State → State) → World → World
with_state id f w = record w { sessions = change_first (has_id id) (state_set f) w.sessions }

-- an event half done: the world, and for how many acts there is memory (none: for all). The session's
-- state tells what is still to be done
pub record Doing : Type 0 where
  pub world : World
  pub memory : Option ℕ

abbrev pub turn_seen : Option View → Turn
turn_seen None = Rest
turn_seen (Some v) = next v

-- what comes next for a session, where it is open
abbrev pub turn_in : World → ℕ → Turn
turn_in w id = turn_seen (view_of w id)

abbrev pub rests : Turn → Bool
rests Rest = true
rests _ = false

-- memory was refused: this is told, what was half read is forgotten, and nothing more is done
abbrev pub refused_state : State → State
refused_state state = record state { echo = Says NoMemory; argument = None; keys = []; todo = [] }

-- an act is decided with the state that it begins from; a refused one leaves the state that was there before
abbrev pub act_done : ℕ → Bool → State → Act → World → Option ℕ → Doing
act_done id stored state c w None = record { world = act (with_state id (λ old. state) w) id c stored; memory = None }
act_done id stored state c w (Some zero) = record { world = with_state id refused_state w; memory = Some zero }
act_done id stored state c w (Some (suc n)) = record { world = act (with_state id (λ old. state) w) id c stored; memory = Some n }

abbrev pub turn_done : ℕ → Bool → Turn → World → Option ℕ → Doing
turn_done id stored Rest w memory = record { world = w; memory = memory }
turn_done id stored (Keep state) w memory = record { world = with_state id (λ old. state) w; memory = memory }
turn_done id stored (Do state c) w memory = act_done id stored state c w memory

abbrev pub turn : ℕ → Bool → Doing → Doing
turn id stored d = turn_done id stored (turn_in d.world id) d.world d.memory

-- how an event stands before each turn, until nothing is left to do, which comes long before n turns are taken. (The cases of `elim` wait
-- until they are asked for, so that this computes no further than that)
unfoldable pub path : ℕ → ℕ → Bool → Doing → List Doing
path zero id stored d = []
path (suc n) id stored d = elim (rests (turn_in d.world id)) [ true ↦ [] | false ↦ d ∷ path n id stored (turn id stored d) ]

-- all that is to be done: how it stands after the last turn
unfoldable pub turns : ℕ → ℕ → Bool → Doing → Doing
turns n id stored d = fold (λ _ e. turn id stored e) d (path n id stored d)

-- more than one event can have: 51,200 bytes of a macro, with as many replacements each as a text has characters
unfoldable pub most_turns : ℕ
most_turns = 2 ^ 40

-- a macro that is recorded has its most bytes
abbrev pub is_macro_full : State → Bool
is_macro_full state = state.recording && nat_le MACRO_LIMIT (length state.macro)

-- a byte comes: it is what is to be done, and where a macro is recorded it is kept. One too many for the macro is not handled, and
-- ends the recording
abbrev pub begun_if : Bool → ℕ → State → State
begun_if too_long byte state =
    if too_long then record state { echo = Says MacroTooLong; macro = []; recording = false; kind = Other; todo = [] }
    else record state { macro = if state.recording then state.macro ++ byte ∷ [] else state.macro; todo = Typed byte ∷ [] }

abbrev pub begun_state : ℕ → State → State
begun_state byte state = begun_if (is_macro_full state) byte state

abbrev pub begun : World → ℕ → ℕ → Option ℕ → Doing
begun w id byte stop = record { world = with_state id (begun_state byte) w; memory = stop }

abbrev pub byte_done : World → ℕ → ℕ → Bool → Option ℕ → World
byte_done w id byte stored stop = (turns most_turns id stored (begun w id byte stop)).world

-- STEP
abbrev pub step : World → Event → World
step w (Open id user rows cols) = cond (can_open w id user rows cols) (settled (opened w id user rows cols)) w
step w (Byte id byte stored stop) = cond (is_open id w) (settled (byte_done w id byte stored stop)) w
step w (Close id) = cond (is_open id w) (settled (record w { sessions = without_session id w.sessions })) w

-- RUN
abbrev pub run : World → List Event → World
run w [] = w
run w (e ∷ es) = run (step w e) es

-- WHAT WAS DONE: the effects of the acts of an event and of a run, in their order

abbrev pub effect_in : Option Outcome → List Effect
effect_in None = []
effect_in (Some o) = o.effect ∷ []

-- what an act of a session does
abbrev pub act_effects : World → ℕ → Act → Bool → List Effect
act_effects w id c stored = effect_in (outcome_in w id c stored)

abbrev pub is_used_up : Option ℕ → Bool
is_used_up (Some zero) = true
is_used_up _ = false

-- an act that is refused does nothing
abbrev pub turn_effects : ℕ → Bool → Turn → World → Option ℕ → List Effect
turn_effects id stored (Do state c) w memory = cond (is_used_up memory) [] (act_effects (with_state id (λ old. state) w) id c stored)
turn_effects id stored _ w memory = []

unfoldable pub turns_effects : ℕ → ℕ → Bool → Doing → List Effect
turns_effects n id stored d = flat_map (λ e. turn_effects id stored (turn_in e.world id) e.world e.memory) (path n id stored d)

abbrev pub event_effects : World → Event → List Effect
event_effects w (Byte id byte stored stop) = cond (is_open id w) (turns_effects most_turns id stored (begun w id byte stop)) []
event_effects w _ = []

abbrev pub run_effects : World → List Event → List Effect
run_effects w [] = []
run_effects w (e ∷ es) = event_effects w e ++ run_effects (step w e) es

-- SAVES: what the store accepted

pub record Saved : Type 0 where
  pub name : List ℕ
  pub text : List ℕ

abbrev pub saved_by : Effect → List Saved
saved_by (Save name text) = record { name = name; text = text } ∷ []
saved_by _ = []

-- by one event, and by a run
abbrev pub event_saves : World → Event → List Saved
event_saves w e = flat_map saved_by (event_effects w e)

abbrev pub run_saves : World → List Event → List Saved
run_saves w es = flat_map saved_by (run_effects w es)
