-- The world that the kept buffers and the sessions stand for.
use Rattle.std.specs.Prelude.{◌≡◌, ℕ, ◌^◌, min, Bool, false, nat_eq, slice_get, List, [], ◌∷◌, length, Option, Some, None, map, find, All}
use Rattle.std.specs.Option.{option_map}
use Rattle.mgs_model.specs.Access.{Directory}
use Rattle.mgs_model.specs.World.{World, Buffer, Shows, find_buffer, first_state, Nothing, Buffer_of, Listing, List_of}
use Rattle.mgs_model.specs.World as model
use Rattle.mgs_model.specs.declared.echo_text.Message.TheVariants.{Says}
use Rattle.mgs_model.specs.declared.echo_text.Notice.TheVariants.{Silent}
use Rattle.mgs_model.specs.declared.session.Mode.{Mode}
use Rattle.mgs_model.specs.declared.session.Mode.TheVariants.{Plain, Prompt, Searching, Replacing}
use Rattle.mgs_mini.specs.Typing.{PromptInput, keys_of}
use Rattle.mgs_buffers.specs.MarkedBuffer.{MarkedBuffer, mark_at}
use Rattle.mgs_windows.specs.declared.WindowMarks.{WindowMarks}
use Rattle.mgs_windows.specs.declared.Window.{Window}
use Rattle.mgs_windows.specs.declared.RowPane.{RowPane}
use Rattle.mgs_windows.specs.declared.RowPane.TheVariants.{NoRows, Buffers, Entries}
use Rattle.mgs_session.specs.declared.State.{State}
use Rattle.mgs_session.specs.declared.search.Aim.{Aim}
use Rattle.mgs_session.specs.declared.search.Aim.TheVariants.{Find, Replace}
use Rattle.mgs_session.specs.declared.search.Search.{Search}
use Rattle.mgs_session.specs.declared.Session.{Session}
use Rattle.mgs_model.specs.Picture.{IsSize}
use Rattle.mgs_world.specs.declared.size.Size.{Size}

-- what is shown where no text is, and from which row on
abbrev pub rows_shown : RowPane → Shows
rows_shown NoRows = Nothing
rows_shown (Buffers row) = Listing
rows_shown (Entries name row) = List_of name

abbrev pub top_row : RowPane → ℕ
top_row NoRows = 0
top_row (Buffers row) = row
top_row (Entries name row) = row

abbrev pub window_shown : List MarkedBuffer → ℕ → Option WindowMarks → RowPane → model.Window
window_shown ks height None rows = record { shows = rows_shown rows; point = 0; mark = None; top = 0; row = top_row rows; height = height }
window_shown ks height (Some x) rows = record {
  shows = Buffer_of x.name;
  point = mark_at x.name ks x.point;
  mark = option_map (mark_at x.name ks) x.mark;
  top = mark_at x.name ks x.top;
  row = 0;
  height = height;
}

abbrev pub window_of : List MarkedBuffer → Window → model.Window
window_of ks x = window_shown ks x.height x.shows x.rows

-- where a session was in a buffer
abbrev pub place_of : List MarkedBuffer → WindowMarks → model.Place
place_of ks x = record { name = x.name; point = mark_at x.name ks x.point; mark = option_map (mark_at x.name ks) x.mark }

-- THE POSITIONS OF A SEARCH: one past the text's end stands for the end

abbrev pub size_found : Option Buffer → ℕ
size_found None = 0
size_found (Some b) = length b.text

-- the length of the text of that name; 0 where there is none
abbrev pub size_named : List ℕ → List Buffer → ℕ
size_named name bs = size_found (find_buffer name bs)

abbrev pub search_at : List Buffer → Search → model.Search
search_at bs s = record { name = s.name; origin = min s.origin (size_named s.name bs); anchor = min s.anchor (size_named s.name bs) }

abbrev pub search_of : List Buffer → Option Search → Option model.Search
search_of bs None = None
search_of bs (Some s) = Some (search_at bs s)

-- WHAT A SEARCH IS FOR: its mode, what is looked for or comes in the place of a match, what is replaced, and how often it was

abbrev pub aim_mode : Aim → Mode
aim_mode (Find s) = Searching s.direction s.failing
aim_mode (Replace r) = Replacing

abbrev pub aim_input : Aim → List ℕ
aim_input (Find s) = s.pattern
aim_input (Replace r) = r.put

abbrev pub aim_old : Aim → List ℕ
aim_old (Find s) = []
aim_old (Replace r) = r.pattern

abbrev pub aim_count : Aim → ℕ
aim_count (Find s) = 0
aim_count (Replace r) = r.count

-- the mode, the keys that are half read and the input: by the search that goes on, or by the prompt where there is one
abbrev pub mode_in : Option Search → Option PromptInput → Mode
mode_in (Some s) p = aim_mode s.aim
mode_in None (Some p) = Prompt p.question
mode_in None None = Plain

abbrev pub keys_in : Option Search → List ℕ → Option PromptInput → List ℕ
keys_in (Some s) keys p = keys
keys_in None keys (Some p) = keys_of p.waiting
keys_in None keys None = keys

abbrev pub input_in : Option Search → Option PromptInput → List ℕ
input_in (Some s) p = aim_input s.aim
input_in None (Some p) = p.input
input_in None None = []

-- what is replaced, and how often it was
abbrev pub old_in : Option Search → Option PromptInput → List ℕ
old_in (Some s) p = aim_old s.aim
old_in None (Some p) = p.first
old_in None None = []

abbrev pub count_in : Option Search → ℕ
count_in (Some s) = aim_count s.aim
count_in None = 0

-- what a session holds
abbrev pub state_of : State → model.State
state_of x =
    record {
      echo = x.echo;
      pattern = x.pattern;
      fill = x.fill;
      macro = x.recorder.macro;
      recording = x.recorder.recording;
      playing = x.player.playing;
      argument = x.keyboard.argument;
      keys = keys_in x.search x.keyboard.keys x.prompt;
      kind = x.kind;
      mode = mode_in x.search x.prompt;
      input = input_in x.search x.prompt;
      old = old_in x.search x.prompt;
      count = count_in x.search;
      todo = x.player.todo;
    }

-- nothing is half read, and nothing is told
abbrev pub idle : model.State → model.State
idle state = record state { echo = Says Silent; argument = None; keys = []; mode = Plain; input = []; old = []; count = 0 }

-- what the session at an index holds
abbrev pub state_or_first : Option Session → model.State
state_or_first None = first_state
state_or_first (Some x) = state_of x.state

abbrev pub state_at : ℕ → List Session → model.State
state_at at xs = state_or_first (slice_get xs at)

abbrev pub buffers_of : List MarkedBuffer → List Buffer
buffers_of ks = map (λ (k : MarkedBuffer). k.buffer) ks

-- a session, where the texts of searches are those of these buffers
abbrev pub session_in : List Buffer → List MarkedBuffer → Session → model.Session
session_in bs ks x = record {
  id = x.id;
  user = x.user;
  rows = x.windows.rows;
  cols = x.cols;
  windows = map (window_of ks) x.windows.windows;
  selected = x.windows.selected;
  places = map (place_of ks) x.windows.places;
  search = search_of bs x.state.search;
  kill = x.kill;
  state = state_of x.state;
}

abbrev pub session_of : List MarkedBuffer → Session → model.Session
session_of ks x = session_in (buffers_of ks) ks x

-- the next id; past the last u64 where every id was used
abbrev pub id_after : Option ℕ → ℕ
id_after None = 2 ^ 64
id_after (Some id) = id

abbrev pub world_of : Directory → List MarkedBuffer → List Session → Option ℕ → World
world_of directory ks sessions next = record {
  directory = directory;
  buffers = buffers_of ks;
  sessions = map (session_of ks) sessions;
  next_id = id_after next;
}

-- SIZES: the id of each session, and the rows and columns of its screen
abbrev pub session_size : model.Session → Size
session_size x = record { id = x.id; rows = x.rows; cols = x.cols }

abbrev pub sizes : World → List Size
sizes w = map session_size w.sessions

abbrev pub size_in : Session → Size
size_in x = record { id = x.id; rows = x.windows.rows; cols = x.cols }

abbrev pub sizes_in : List Session → List Size
sizes_in xs = map size_in xs

abbrev pub is_size_of : ℕ → Size → Bool
is_size_of id x = nat_eq x.id id

abbrev pub find_size : ℕ → List Size → Option Size
find_size id xs = find (is_size_of id) xs

-- the size of a screen
abbrev pub IsOfSize : Size → Type 0
IsOfSize x = IsSize x.rows x.cols

abbrev pub IsOther : Size → Size → Type 0
IsOther x y = nat_eq x.id y.id ≡ false

-- no id stands twice
abbrev pub IsUnique : List Size → Type 0
IsUnique [] = Unit {0}
IsUnique (x ∷ xs) = All (IsOther x) xs × IsUnique xs

abbrev pub session_id : ℕ → Session → Bool
session_id id x = nat_eq x.id id
