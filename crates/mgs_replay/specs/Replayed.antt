-- What a script writes and how its replay ends, as a function of what it is granted.
use Rattle.std.specs.Prelude.{◌≡◌, ℕ, ◌+◌, ◌++◌, ◌⊎◌, Bool, true, cond, if◌then◌else◌, List, [], ◌∷◌, map, All, Option, Some, None, Result, Ok, Err}
use Rattle.std.specs.Io.KnownBytes.{Appends}
use Rattle.mgs_model.specs.World.{World, Session, find_session}
use Rattle.mgs_model.specs.Draw.{screen}
use Rattle.mgs_model.specs.Events.{step}
use Rattle.mgs_laws.specs.Refusals.{refused_act, may_be_refused}
use Rattle.mgs_model.specs.Events as events
use Rattle.mgs_model.specs.declared.errors.Keyed.{Keyed}
use Rattle.mgs_model.specs.declared.errors.Keyed.TheVariants as keyed
use Rattle.mgs_model.specs.declared.errors.OpenFault.{OpenFault}
use Rattle.mgs_model.specs.declared.errors.OpenFault.TheVariants as opening
use Rattle.mgs_model.specs.Events.{open_fault}
use Rattle.mgs_paint.specs.Painting.{shown}
use Rattle.mgs_script.specs.Lines.{Said, said_in, Nothing, User, Group, Buffer, OwnGroup, Entry as Listing, Text, Open, Keys, Show, Close}
use Rattle.mgs_script.specs.Scripts.{lines_of}
use Rattle.mgs_replay.specs.declared.client.Cause.TheVariants as causes
use Rattle.mgs_replay.specs.declared.script.ReplayFault.{ReplayFault}
use Rattle.mgs_replay.specs.declared.script.ReplayFault.TheVariants as ends
use Rattle.mgs_replay.specs.Settings.{first_world, world_set}
use Rattle.mgs_replay.specs.Prints.{refusal_text, ended_text, screen_text}
use Rattle.mgs_replay.specs.Players.{Player, label, Standing, Never, Has, Gone, standing_of, session_now, gone, labels_keyed, setting, playing, is_refused, may_be_short}

-- CHOICES

-- what an open or a byte is granted: the store's answer to a save, and after how many acts memory is refused, if it is
pub record Choice : Type 0 where
  pub stored : Bool
  pub stop : Option ℕ

-- all of it
abbrev pub granted : Choice
granted = record { stored = true; stop = None }

-- the choice of the next event; where none is left, it is granted all
abbrev pub next_choice : List Choice → Choice
next_choice [] = granted
next_choice (c ∷ cs) = c

-- what a line is granted: no memory, or what its events are granted
pub data LineChoice : Type 0 where
  NoMemory : LineChoice
  Events : (events : List Choice) → LineChoice

-- the choice of the next line; where none is left, it is granted all
abbrev pub next_line : List LineChoice → LineChoice
next_line [] = Events []
next_line (c ∷ cs) = c

-- those after the next
abbrev pub later : {A : Type 0} → List A → List A
later [] = []
later (c ∷ cs) = cs

-- nothing is refused
abbrev pub AllGranted : List Choice → Type 0
AllGranted cs = All (λ (c : Choice). c ≡ granted) cs

abbrev pub IsGranted : LineChoice → Type 0
IsGranted NoMemory = ⊥
IsGranted (Events cs) = AllGranted cs

-- LINES

-- the player after a line, and what the line prints
pub record Did : Type 0 where
  pub player : Player
  pub print : List ℕ

abbrev pub did : Player → List ℕ → Did
did s print = record { player = s; print = print }

-- after how many acts memory is refused to a byte: it is refused only to an act that may be refused
unfoldable pub stop_of : Choice → World → ℕ → ℕ → Option ℕ
stop_of c w id byte = cond (may_be_refused (refused_act w id byte c.stored c.stop)) c.stop None

-- the world after a byte
unfoldable pub world_keyed : Choice → World → ℕ → ℕ → World
world_keyed c w id byte = step w (events.Byte id byte c.stored (stop_of c w id byte))

-- what a byte answers, by its session before and after it and by whether memory was refused
abbrev pub answer_of : Option Session → Option Session → Option ℕ → Keyed
answer_of None after stop = keyed.NoSession
answer_of (Some x) after (Some n) = keyed.Short
answer_of (Some x) None None = keyed.Quit
answer_of (Some x) (Some y) None = keyed.Done

unfoldable pub key_answer : Choice → World → ℕ → ℕ → Keyed
key_answer c w id byte = answer_of (find_session id w.sessions) (find_session id (world_keyed c w id byte).sessions) (stop_of c w id byte)

-- a byte of a label, whose session has that id where it is open
abbrev pub typed_one : Choice → Option ℕ → Player → List ℕ → ℕ → Player
typed_one c None s name byte = s
typed_one c (Some id) s name byte =
    record { world = world_keyed c s.world id byte; labels = labels_keyed (key_answer c s.world id byte) name s.labels; begun = s.begun }

-- bytes of a label, one after another
abbrev pub typed : List Choice → Player → List ℕ → List ℕ → Player
typed cs s name [] = s
typed cs s name (b ∷ bs) = typed (later cs) (typed_one (next_choice cs) (session_now (standing_of name s.labels)) s name b) name bs

-- what an open answers where nothing but memory can refuse it
abbrev pub granted_id : Option ℕ → ℕ → Result ℕ OpenFault
granted_id None id = Ok id
granted_id (Some n) id = Err opening.Short

-- what an open answers, by the fault that is due
abbrev pub open_answer : Choice → Option OpenFault → ℕ → Result ℕ OpenFault
open_answer c (Some fault) id = Err fault
open_answer c None id = granted_id c.stop id

-- an `open` line, by the answer
abbrev pub did_open : Player → List ℕ → List ℕ → ℕ → ℕ → Result ℕ OpenFault → Did
did_open s name user rows cols (Ok id) = did (playing (step s.world (events.Open id user rows cols)) (s.labels ++ label name (Has id) ∷ [])) []
did_open s name user rows cols (Err fault) = did (playing s.world (s.labels ++ label name Never ∷ [])) (refusal_text name fault)

-- the screen of an open session
abbrev pub session_text : World → List ℕ → Option Session → List ℕ
session_text w name None = []
session_text w name (Some x) = screen_text name (shown (screen w x))

-- what is printed of a label
abbrev pub label_text : World → List ℕ → Option Standing → List ℕ
label_text w name None = []
label_text w name (Some Never) = []
label_text w name (Some (Has id)) = session_text w name (find_session id w.sessions)
label_text w name (Some (Gone cause)) = ended_text name cause

-- a `close` line, by the open session of its label
abbrev pub closed : Option ℕ → Player → List ℕ → Player
closed None s name = s
closed (Some id) s name = record { world = step s.world (events.Close id); labels = map (gone name causes.Closed) s.labels; begun = s.begun }

-- what a line that is not refused does
abbrev pub did_by : List Choice → Player → Said → Did
did_by cs s Nothing = did s []
did_by cs s (User name) = did (record s { world = world_set s.world (User name) }) []
did_by cs s (Group name members) = did (record s { world = world_set s.world (Group name members) }) []
did_by cs s (Buffer name owner) = did (record s { world = world_set s.world (Buffer name owner) }) []
did_by cs s (OwnGroup buffer group) = did (record s { world = world_set s.world (OwnGroup buffer group) }) []
did_by cs s (Listing buffer entry) = did (record s { world = world_set s.world (Listing buffer entry) }) []
did_by cs s (Text buffer chars) = did (record s { world = world_set s.world (Text buffer chars) }) []
did_by cs s (Open name user rows cols) =
    did_open s name user rows cols (open_answer (next_choice cs) (open_fault s.world user rows cols) s.world.next_id)
did_by cs s (Keys name keys) = did (typed cs s name keys) []
did_by cs s (Show name) = did s (label_text s.world name (standing_of name s.labels))
did_by cs s (Close name) = did (closed (session_now (standing_of name s.labels)) s name) []

-- SCRIPTS

-- what is written, and how the replay ends
pub record Replayed : Type 0 where
  pub out : List ℕ
  pub end : Result (Unit {0}) ReplayFault

-- it ends so, and writes nothing more
abbrev pub ended : Result (Unit {0}) ReplayFault → Replayed
ended end = record { out = []; end = end }

-- a line prints this before the lines after it
abbrev pub after_print : List ℕ → Replayed → Replayed
after_print print r = record { out = print ++ r.out; end = r.end }

-- the n-th line, and those after it; memory is refused only to a line to which it may be, and another is then refused itself
abbrev pub line_then : ℕ → Player → Option Said → LineChoice → (Player → Replayed) → Replayed
line_then n s None c rest = ended (Err (ends.Line n))
line_then n s (Some said) NoMemory rest = ended (Err (if may_be_short s said then ends.Short else ends.Line n))
line_then n s (Some said) (Events cs) rest =
    if is_refused s said then ended (Err (ends.Line n)) else after_print (did_by cs s said).print (rest (did_by cs s said).player)

-- the lines from the n-th on, each with what it is granted
abbrev pub played : List LineChoice → ℕ → Player → List (List ℕ) → Replayed
played cs n s [] = ended (Ok tt)
played cs n s (l ∷ ls) = line_then n s (said_in l) (next_line cs) (λ t. played (later cs) (n + 1) t ls)

-- a script over a server that has nothing yet
unfoldable pub replayed : List LineChoice → List ℕ → Replayed
replayed cs script = played cs 1 (setting first_world) (lines_of script)

-- where nothing is refused, that is one fixed output
abbrev pub IsDetermined : Type 0
IsDetermined = (cs : List LineChoice) (script : List ℕ) → All IsGranted cs → replayed cs script ≡ replayed [] script

-- what the replay of a script wrote, and how it ended, is what the function gives for some choices; where it ended by its
-- reader or its writer, nothing is said
abbrev pub Written : List ℕ → Option (List ℕ) → Option (List ℕ) → Result (Unit {0}) ReplayFault → Type 0
Written script old new (Err ends.Read) = Unit {0}
Written script old new (Err ends.Write) = Unit {0}
Written script old new result = (choices : List LineChoice) × Appends old new (replayed choices script).out × ((replayed choices script).end ≡ result)

-- the same of a script that is read first, for which memory may be refused as well: then nothing was written
abbrev pub WrittenOrUnread : List ℕ → Option (List ℕ) → Option (List ℕ) → Result (Unit {0}) ReplayFault → Type 0
WrittenOrUnread script old new result = ((result ≡ Err ends.Short) × (new ≡ old)) ⊎ Written script old new result
