-- The world: the directory, the buffers in order of creation, and the sessions.
use Rattle.std.specs.Prelude.{ℕ, Bool, false, ◌==◌, List, [], Option, None, find}
use Rattle.mgs_model.specs.Names.{same_name}
use Rattle.mgs_model.specs.Access.{Directory, decider, allows}
use Rattle.mgs_model.specs.declared.owners.Owners.{Owners}
use Rattle.mgs_model.specs.declared.right.Right.{Right}
use Rattle.mgs_model.specs.declared.entry.Entry.{Entry}
use Rattle.mgs_model.specs.declared.echo_text.Message.{Message}
use Rattle.mgs_model.specs.declared.echo_text.Message.TheVariants.{Says}
use Rattle.mgs_model.specs.declared.echo_text.Notice.TheVariants.{Silent}
use Rattle.mgs_model.specs.declared.session.Argument.{Argument}
use Rattle.mgs_model.specs.declared.session.Mode.{Mode}
use Rattle.mgs_model.specs.declared.session.Mode.TheVariants.{Plain}
use Rattle.mgs_model.specs.declared.session.Kind.{Kind}
use Rattle.mgs_model.specs.declared.session.Kind.TheVariants.{Other}

-- UNDO RECORD: one edit: its serial, its place, the characters taken out, and how many were put in
pub record Item : Type 0 where
  pub serial : ℕ
  pub place : ℕ
  pub removed : List ℕ
  pub put : ℕ

-- how many of them a buffer keeps
abbrev pub most_items : ℕ
most_items = 1000

-- a buffer; its items are the latest first, and its serial is that of the last edit
pub record Buffer : Type 0 where
  pub name : List ℕ
  pub owners : Owners
  pub entries : List Entry
  pub text : List ℕ
  pub items : List Item
  pub serial : ℕ
  pub modified : Bool
  pub file : Bool

-- what a window shows
pub data Shows : Type 0 where
  Nothing : Shows
  Buffer_of : (name : List ℕ) → Shows
  Listing : Shows
  List_of : (name : List ℕ) → Shows

-- point, mark and top are positions in the buffer that is shown (0, none and 0 where none is);
-- row is the top row number of a listing or of an access list; height counts the rows above the mode line
pub record Window : Type 0 where
  pub shows : Shows
  pub point : ℕ
  pub mark : Option ℕ
  pub top : ℕ
  pub row : ℕ
  pub height : ℕ

-- where a session was in a buffer that one of its windows left
pub record Place : Type 0 where
  pub name : List ℕ
  pub point : ℕ
  pub mark : Option ℕ

-- the positions of an incremental search or of query-replace
pub record Search : Type 0 where
  pub name : List ℕ
  pub origin : ℕ
  pub anchor : ℕ

-- what is still to be done in an event: a byte that was typed, one that a macro plays, or all further replacements. Where a macro
-- begins to play, what follows is done as after a command of no kind
pub data Todo : Type 0 where
  Typed : (byte : ℕ) → Todo
  Played : (byte : ℕ) → Todo
  Replace_all : Todo
  Play : Todo

-- all that a session holds beside its positions and its kill buffer
pub record State : Type 0 where
  pub echo : Message
  -- the search string: what was searched for last
  pub pattern : List ℕ
  pub fill : ℕ
  pub macro : List ℕ
  pub recording : Bool
  -- the byte that is handled is a macro's
  pub playing : Bool
  pub argument : Option Argument
  pub keys : List ℕ
  pub kind : Kind
  pub mode : Mode
  -- the characters that were typed at the prompt, or the pattern of an incremental search
  pub input : List ℕ
  -- what is replaced by the input, and how often it was
  pub old : List ℕ
  pub count : ℕ
  pub todo : List Todo

abbrev pub first_state : State
first_state =
    record {
      echo = Says Silent;
      pattern = [];
      fill = 72;
      macro = [];
      recording = false;
      playing = false;
      argument = None;
      keys = [];
      kind = Other;
      mode = Plain;
      input = [];
      old = [];
      count = 0;
      todo = [];
    }

pub record Session : Type 0 where
  pub id : ℕ
  pub user : List ℕ
  pub rows : ℕ
  pub cols : ℕ
  pub windows : List Window
  pub selected : ℕ
  pub places : List Place
  pub search : Option Search
  pub kill : List ℕ
  pub state : State

-- next_id is the id that the next session gets
pub record World : Type 0 where
  pub directory : Directory
  pub buffers : List Buffer
  pub sessions : List Session
  pub next_id : ℕ

-- LOOK-UPS

abbrev pub is_named : List ℕ → Buffer → Bool
is_named name b = same_name name b.name

abbrev pub find_buffer : List ℕ → List Buffer → Option Buffer
find_buffer name buffers = find (is_named name) buffers

abbrev pub has_id : ℕ → Session → Bool
has_id id x = x.id == id

abbrev pub find_session : ℕ → List Session → Option Session
find_session id sessions = find (has_id id) sessions

-- the user is granted the right on the buffer
abbrev pub may : Directory → List ℕ → Right → Buffer → Bool
may directory user right b = allows (decider directory b.owners user b.entries right)
