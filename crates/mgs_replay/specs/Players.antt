-- The labels of a script, the player of its lines, and which lines are refused.
use Rattle.std.specs.Prelude.{ℕ, Bool, true, false, ◌||◌, not, List, [], map, find, Option, Some, None, is_some, if◌then◌else◌}
use Rattle.std.specs.Option.{option_map}
use Rattle.mgs_model.specs.Names.{same_name}
use Rattle.mgs_model.specs.World.{World}
use Rattle.mgs_model.specs.declared.errors.Keyed.{Keyed}
use Rattle.mgs_model.specs.declared.errors.Keyed.TheVariants as keyed
use Rattle.mgs_replay.specs.declared.client.Cause.{Cause}
use Rattle.mgs_replay.specs.declared.client.Cause.TheVariants as causes
use Rattle.mgs_replay.specs.Settings.{setting_refused}
use Rattle.mgs_script.specs.Lines.{Said, Nothing, User, Group, Buffer, OwnGroup, Entry as Listing, Text, Open, Keys, Show, Close}

-- LABELS

-- how a label stands: its open was refused, it has an open session, or its session ended
pub data Standing : Type 0 where
  Never : Standing
  Has : (id : ℕ) → Standing
  Gone : (cause : Cause) → Standing

pub record Label : Type 0 where
  pub name : List ℕ
  pub standing : Standing

abbrev pub label : List ℕ → Standing → Label
label name standing = record { name = name; standing = standing }

abbrev pub is_called : List ℕ → Label → Bool
is_called name x = same_name name x.name

-- how the label of that name stands, if it was used
abbrev pub standing_of : List ℕ → List Label → Option Standing
standing_of name xs = option_map (λ (x : Label). x.standing) (find (is_called name) xs)

-- the label has had a session
abbrev pub had_session : Option Standing → Bool
had_session None = false
had_session (Some Never) = false
had_session (Some (Has id)) = true
had_session (Some (Gone cause)) = true

-- its session, where that is open
abbrev pub session_now : Option Standing → Option ℕ
session_now None = None
session_now (Some Never) = None
session_now (Some (Has id)) = Some id
session_now (Some (Gone cause)) = None

-- the session of that label has ended
abbrev pub gone : List ℕ → Cause → Label → Label
gone name cause x = if is_called name x then label x.name (Gone cause) else x

-- the labels after a byte of one of them: `Quit` ends its session
abbrev pub labels_keyed : Keyed → List ℕ → List Label → List Label
labels_keyed keyed.Quit name xs = map (gone name causes.Quit) xs
labels_keyed keyed.Done name xs = xs
labels_keyed keyed.NoSession name xs = xs
labels_keyed keyed.Short name xs = xs

-- PLAYERS

-- the world, the labels so far, and whether an `open` line has come
pub record Player : Type 0 where
  pub world : World
  pub labels : List Label
  pub begun : Bool

-- before the first open
abbrev pub setting : World → Player
setting w = record { world = w; labels = []; begun = false }

-- from the first open on
abbrev pub playing : World → List Label → Player
playing w xs = record { world = w; labels = xs; begun = true }

-- LINES

-- the line is refused: users, groups and buffers after the first open, a label that was used, and one that had no session
abbrev pub is_refused : Player → Said → Bool
is_refused s Nothing = false
is_refused s (User name) = s.begun || setting_refused s.world (User name)
is_refused s (Group name members) = s.begun || setting_refused s.world (Group name members)
is_refused s (Buffer name owner) = s.begun || setting_refused s.world (Buffer name owner)
is_refused s (OwnGroup buffer group) = s.begun || setting_refused s.world (OwnGroup buffer group)
is_refused s (Listing buffer entry) = s.begun || setting_refused s.world (Listing buffer entry)
is_refused s (Text buffer cs) = s.begun || setting_refused s.world (Text buffer cs)
is_refused s (Open name user rows cols) = is_some (standing_of name s.labels)
is_refused s (Keys name keys) = not (had_session (standing_of name s.labels))
is_refused s (Show name) = not (had_session (standing_of name s.labels))
is_refused s (Close name) = not (had_session (standing_of name s.labels))

-- lines that are read into memory before it is known whether they are refused: groups and texts before the first open
abbrev pub is_read_first : Player → Said → Bool
is_read_first s (Group name members) = not s.begun
is_read_first s (Text buffer cs) = not s.begun
is_read_first s _ = false

-- memory may be refused to a line that is not refused itself, and to one of those
abbrev pub may_be_short : Player → Said → Bool
may_be_short s said = is_read_first s said || not (is_refused s said)
