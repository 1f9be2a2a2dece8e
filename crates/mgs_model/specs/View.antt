-- VIEW: what a session's acts and its screen may depend on, and nothing else.
use Rattle.std.specs.Prelude.{ℕ, Bool, false, List, [], map, find, length, Option, Some, None, if◌then◌else◌}
use Rattle.std.specs.Option.{option_map}
use Rattle.mgs_model.specs.Names.{same_name}
use Rattle.mgs_model.specs.Access.{Directory, Decider, decider, allows, any_right}
use Rattle.mgs_model.specs.declared.owners.Owners.{Owners}
use Rattle.mgs_model.specs.World.{World, Buffer, Item, Session, Window, Place, Search, State, Shows, Buffer_of, find_buffer, find_session, may}
use Rattle.mgs_model.specs.declared.right.Right.{Right}
use Rattle.mgs_model.specs.declared.right.Right.TheVariants.{ReadData}
use Rattle.mgs_model.specs.declared.entry.Entry.{Entry}

-- positions in a text that may be read
pub record Positions : Type 0 where
  pub point : ℕ
  pub mark : Option ℕ
  pub top : ℕ

pub record WindowSeen : Type 0 where
  pub shows : Shows
  pub row : ℕ
  pub height : ℕ
  pub positions : Option Positions

pub record PlaceSeen : Type 0 where
  pub name : List ℕ
  pub positions : Option Positions

-- point is the search's origin, mark its anchor
pub record SearchSeen : Type 0 where
  pub name : List ℕ
  pub positions : Option Positions

pub record SessionSeen : Type 0 where
  pub id : ℕ
  pub user : List ℕ
  pub rows : ℕ
  pub cols : ℕ
  pub windows : List WindowSeen
  pub selected : ℕ
  pub places : List PlaceSeen
  pub search : Option SearchSeen
  pub kill : List ℕ
  pub state : State

-- what is told of a buffer on which any right is granted
pub record Told : Type 0 where
  pub owners : Owners
  pub entries : List Entry
  pub size : ℕ
  pub serial : ℕ
  pub modified : Bool
  pub file : Bool

-- what a reader sees besides
pub record Full : Type 0 where
  pub text : List ℕ
  pub items : List Item

-- of each buffer its name and who decides each right of the session's user
pub record BufferSeen : Type 0 where
  pub name : List ℕ
  pub deciders : Right → Decider
  pub told : Option Told
  pub full : Option Full

pub record View : Type 0 where
  pub directory : Directory
  pub session : SessionSeen
  pub buffers : List BufferSeen

abbrev pub reads_found : Directory → List ℕ → Option Buffer → Bool
reads_found directory user None = false
reads_found directory user (Some b) = may directory user ReadData b

-- whether the user may read the buffer of that name
abbrev pub reads : Directory → List Buffer → List ℕ → List ℕ → Bool
reads directory buffers user name = reads_found directory user (find_buffer name buffers)

abbrev pub positions_if : Bool → ℕ → Option ℕ → ℕ → Option Positions
positions_if can point mark top = if can then Some (record { point = point; mark = mark; top = top }) else None

abbrev pub in_readable : (List ℕ → Bool) → Shows → Bool
in_readable can (Buffer_of name) = can name
in_readable can _ = false

abbrev pub window_seen : (List ℕ → Bool) → Window → WindowSeen
window_seen can x = record { shows = x.shows; row = x.row; height = x.height; positions = positions_if (in_readable can x.shows) x.point x.mark x.top }

abbrev pub place_seen : (List ℕ → Bool) → Place → PlaceSeen
place_seen can x = record { name = x.name; positions = positions_if (can x.name) x.point x.mark 0 }

abbrev pub search_seen : (List ℕ → Bool) → Option Search → Option SearchSeen
search_seen can None = None
search_seen can (Some x) = Some (record { name = x.name; positions = positions_if (can x.name) x.origin (Some x.anchor) 0 })

abbrev pub session_seen : (List ℕ → Bool) → Session → SessionSeen
session_seen can x =
    record {
      id = x.id;
      user = x.user;
      rows = x.rows;
      cols = x.cols;
      windows = map (window_seen can) x.windows;
      selected = x.selected;
      places = map (place_seen can) x.places;
      search = search_seen can x.search;
      kill = x.kill;
      state = x.state;
    }

abbrev pub told_if : Bool → Buffer → Option Told
told_if can b =
    if can
    then Some (record { owners = b.owners; entries = b.entries; size = length b.text; serial = b.serial; modified = b.modified; file = b.file })
    else None

abbrev pub full_if : Bool → Buffer → Option Full
full_if can b = if can then Some (record { text = b.text; items = b.items }) else None

abbrev pub buffer_seen : Directory → List ℕ → Buffer → BufferSeen
buffer_seen directory user b =
    record {
      name = b.name;
      deciders = decider directory b.owners user b.entries;
      told = told_if (any_right (decider directory b.owners user b.entries)) b;
      full = full_if (may directory user ReadData b) b;
    }

abbrev pub view : World → Session → View
view w x =
    record {
      directory = w.directory;
      session = session_seen (reads w.directory w.buffers x.user) x;
      buffers = map (buffer_seen w.directory x.user) w.buffers;
    }

-- the view of the session of that id
abbrev pub view_of : World → ℕ → Option View
view_of w id = option_map (view w) (find_session id w.sessions)

-- LOOK-UPS

abbrev pub find_seen : List ℕ → List BufferSeen → Option BufferSeen
find_seen name buffers = find (λ (b : BufferSeen). same_name name b.name) buffers

-- the user is granted this right on it
abbrev pub is_granted : BufferSeen → Right → Bool
is_granted b right = allows (b.deciders right)

-- how many characters it has; 0 where nothing is told
abbrev pub size_told : Option Told → ℕ
size_told None = 0
size_told (Some t) = t.size

abbrev pub serial_told : Option Told → ℕ
serial_told None = 0
serial_told (Some t) = t.serial

-- the text of a reader
abbrev pub text_in : Option Full → List ℕ
text_in None = []
text_in (Some f) = f.text
