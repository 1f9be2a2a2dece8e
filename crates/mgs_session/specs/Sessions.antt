-- What a session is at first, what it is told, and what it shows.
use Rattle.std.specs.Prelude.{ℕ, ◌-◌, List, [], ◌∷◌, Option, None, Some, slice_get, cond}
use Rattle.std.specs.Option.{option_and_then}
use Rattle.mgs_model.specs.declared.echo_text.Message.{Message}
use Rattle.mgs_model.specs.declared.echo_text.Message.TheVariants.{Says}
use Rattle.mgs_model.specs.declared.echo_text.Notice.TheVariants.{Silent, KeyNotBound, MacroTooLong}
use Rattle.mgs_model.specs.Plans.{kind_failed}
use Rattle.mgs_model.specs.World.{first_state}
use Rattle.mgs_model.specs.declared.session.Kind.{Kind}
use Rattle.mgs_model.specs.declared.session.Kind.TheVariants.{Other}
use Rattle.mgs_model.specs.declared.session.Question.{Question}
use Rattle.mgs_maps.specs.Held.{Held, argument_held, nothing_held}
use Rattle.mgs_mini.specs.Typing.{PromptInput}
use Rattle.mgs_mini.specs.declared.Waiting.TheVariants.{NoKey}
use Rattle.mgs_windows.specs.declared.WindowMarks.{WindowMarks}
use Rattle.mgs_windows.specs.declared.Window.{Window}
use Rattle.mgs_windows.specs.declared.RowPane.TheVariants.{NoRows, Buffers, Entries}
use Rattle.mgs_windows.specs.declared.RowPane.{RowPane}
use Rattle.mgs_session.specs.declared.Session.{Session}
use Rattle.mgs_session.specs.Playing.{Playing, byte_typed, called, nothing_played, stopped}
use Rattle.mgs_mini.specs.Recording.{Recorded, appended, ended, given_up, is_full, nothing_recorded, started}

abbrev pub session_opened : ℕ → List ℕ → ℕ → ℕ → Option WindowMarks → ℕ → Session
session_opened id user rows cols shows capacity = record {
  id = id;
  user = user;
  cols = cols;
  windows = record { rows = rows; windows = record { height = rows - 2; shows = shows; rows = NoRows } ∷ []; selected = 0; places = []; capacity = capacity };
  kill = [];
  state = record { echo = Says Silent; keyboard = nothing_held; kind = Other; fill = first_state.fill; prompt = None; pattern = []; recorder = nothing_recorded; player = nothing_played; search = None };
}

abbrev pub told : Message → Session → Session
told message x = record x { state = record x.state { echo = message } }

-- a command of this kind was done
abbrev pub acted : Kind → Session → Session
acted kind x = record x { state = record x.state { kind = kind } }

-- the fill column is set
abbrev pub filling : ℕ → Session → Session
filling column x = record x { state = record x.state { fill = column } }

-- it holds what was read, and no prompt and no search, and its echo line is empty; what it keeps from command to command is the same
abbrev pub holding : Held → Session → Session
holding k x = record x { state = record x.state { echo = Says Silent; keyboard = k; prompt = None; search = None } }

-- nothing is half read, and nothing is told
abbrev pub resting : Session → Session
resting x = holding nothing_held x

-- what is still to be done
abbrev pub playing_as : Playing → Session → Session
playing_as p x = record x { state = record x.state { player = p } }

-- it is told what stands against what was to be done, and nothing more is to be done
abbrev pub broken_off : Message → Session → Session
broken_off message x = playing_as (stopped x.state.player) (told message x)

-- typed bytes are no character and no key: this is told, and breaks a run of commands. A prompt and a search go on
abbrev pub unbound : Session → Session
unbound x = broken_off (Says KeyNotBound) (acted Other x)

-- what is half read changes alone
abbrev pub reading : Held → Session → Session
reading k x = record x { state = record x.state { keyboard = k } }

-- a command has failed: nothing more is to be done
abbrev pub failed : Message → Session → Session
failed message x = playing_as (stopped x.state.player) (told message (acted (kind_failed message x.state.kind) (resting x)))

-- MACROS

abbrev pub recording_as : Recorded → Session → Session
recording_as r x = record x { state = record x.state { recorder = r } }

-- a byte comes: it is kept and is to be handled, or it is one too many for the macro, which is told and breaks a run of commands
abbrev pub begun : ℕ → Session → Session
begun byte x =
    cond (is_full x.state.recorder) (playing_as (stopped x.state.player) (told (Says MacroTooLong) (acted Other (recording_as nothing_recorded x))))
    (playing_as (byte_typed byte x.state.player) (recording_as (appended byte x.state.recorder) x))

abbrev pub macro_started : Session → Session
macro_started x = acted Other (recording_as started x)

abbrev pub macro_ended : Session → Session
macro_ended x = acted Other (recording_as (ended x.state.recorder) x)

-- the macro is to be played so many times
abbrev pub macro_called : ℕ → Session → Session
macro_called n x = playing_as (called n x.state.recorder.macro x.state.player) x

abbrev pub macro_given_up : Session → Session
macro_given_up x = recording_as (given_up x.state.recorder) x

-- PROMPTS

-- nothing is typed
abbrev pub first_input : Question → PromptInput
first_input c = record { question = c; first = []; input = []; waiting = NoKey }

-- a question is asked, and the argument waits for the command that its answer is for
abbrev pub asking : Question → Option ℕ → Session → Session
asking c n x = acted Other (record x { state = record x.state { keyboard = argument_held n; prompt = Some (first_input c) } })

abbrev pub unprompted : Session → Session
unprompted x = record x { state = record x.state { prompt = None } }

-- it is at a prompt, and its echo line is empty
abbrev pub prompting : PromptInput → Session → Session
prompting p x = told (Says Silent) (record x { state = record x.state { prompt = Some p } })

-- the buffer of the selected window
abbrev pub window_marks_of : Session → Option WindowMarks
window_marks_of x = option_and_then (λ (w : Window). w.shows) (slice_get x.windows.windows x.windows.selected)

-- the buffer whose text or access list is shown
abbrev pub subject_in : Option WindowMarks → RowPane → Option (List ℕ)
subject_in (Some x) rows = Some x.name
subject_in None NoRows = None
subject_in None (Buffers row) = None
subject_in None (Entries name row) = Some name

-- in the selected window
abbrev pub subject_of : Session → Option (List ℕ)
subject_of x = option_and_then (λ (w : Window). subject_in w.shows w.rows) (slice_get x.windows.windows x.windows.selected)
