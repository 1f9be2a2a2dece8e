-- The terminals of the labels beside the engine that serves them.
use Rattle.std.specs.Prelude.{◌≡◌, ℕ, nat_eq, true, false, List, [], ◌∷◌, ◌++◌, map, length, Option, Some, None, IsSome, Result, Ok, Err, IfOk, All}
use Rattle.std.specs.Option.{option_map}
use Rattle.mgs_model.specs.World.{World, Session, find_session}
use Rattle.mgs_model.specs.Draw.{screen}
use Rattle.mgs_model.specs.Events.{is_open}
use Rattle.mgs_term.specs.Screen.{Screen, blank_screen}
use Rattle.mgs_term.specs.Terminal.{Terminal, resting}
use Rattle.mgs_term.specs.Drawing.{Draws, Anything}
use Rattle.mgs_paint.specs.Painting.{shown}
use Rattle.mgs_world.specs.Worlds.{sizes}
use Rattle.mgs_engine.specs.Does.{taken_by}
use Rattle.mgs_engine.specs.Serving.{Serving, NoneWaits, pending_of}
use Rattle.mgs_replay.specs.declared.client.Labelled.{Labelled}
use Rattle.mgs_replay.specs.declared.client.Client.{Client}
use Rattle.mgs_replay.specs.declared.client.Client.TheVariants as clients
use Rattle.mgs_model.specs.declared.errors.OpenFault.{OpenFault}
use Rattle.mgs_model.specs.declared.errors.Keyed.{Keyed}
use Rattle.mgs_model.specs.declared.errors.Keyed.TheVariants as keyed
use Rattle.mgs_replay.specs.declared.client.Cause.TheVariants as causes
use Rattle.mgs_script.specs.declared.line.LineFault.{LineFault}
use Rattle.mgs_script.specs.declared.line.LineFault.TheVariants as lines
use Rattle.mgs_script.specs.Lines.{Said, said_in}
use Rattle.mgs_replay.specs.Clients.{ended_by, TermFed}
use Rattle.mgs_replay.specs.Players.{Label, label, Standing, Never, Has, Gone, Player, playing, standing_of, session_now, is_refused}
use Rattle.mgs_replay.specs.Turns.{Does, LineDoes, IsDue, Turned, TypesOne}
use Rattle.mgs_replay.specs.declared.lines.TurnFault.{TurnFault}

-- how a label stands, by its client
abbrev pub standing_in : Client → Standing
standing_in clients.Never = Never
standing_in (clients.Open id term) = Has id
standing_in (clients.Ended cause) = Gone cause

abbrev pub label_of : Labelled → Label
label_of x = label x.label (standing_in x.client)

abbrev pub labels_in : List Labelled → List Label
labels_in xs = map label_of xs

-- the client of a session that was just opened: its terminal took no byte yet
abbrev pub client_opened : List ℕ → ℕ → ℕ → ℕ → Labelled
client_opened name id rows cols = record { label = name; client = clients.Open id (resting (blank_screen rows cols)) }

-- a session that was opened comes behind all others, with the size of its screen
abbrev pub SizeAdded : ℕ → ℕ → Result ℕ OpenFault → World → World → Type 0
SizeAdded rows cols answer old new = IfOk answer (λ id. sizes new ≡ sizes old ++ record { id = id; rows = rows; cols = cols } ∷ [])

-- between two events a terminal shows the screen of its session, which is open
abbrev pub ClientShows : World → Client → Type 0
ClientShows w clients.Never = Unit {0}
ClientShows w (clients.Open id term) = (x : Session) × (find_session id w.sessions ≡ Some x) × (term ≡ resting (shown (screen w x)))
ClientShows w (clients.Ended cause) = Unit {0}

abbrev pub LabelShows : World → Labelled → Type 0
LabelShows w x = ClientShows w x.client

-- after an event the bytes that wait for it draw that screen
abbrev pub ClientDue : Serving → Client → Type 0
ClientDue e clients.Never = Unit {0}
ClientDue e (clients.Open id term) =
    (x : Session) × (s : Screen) × (find_session id e.world.sessions ≡ Some x) × (term ≡ resting s) × Draws Anything (pending_of id e) s (shown (screen e.world x))
ClientDue e (clients.Ended cause) = Unit {0}

abbrev pub IsLineDue : Serving → Labelled → Type 0
IsLineDue e x = ClientDue e x.client

-- two labels have not the same open session
abbrev pub Differ : Standing → Standing → Type 0
Differ Never y = Unit {0}
Differ (Gone cause) y = Unit {0}
Differ (Has id) Never = Unit {0}
Differ (Has id) (Has other) = nat_eq other id ≡ false
Differ (Has id) (Gone cause) = Unit {0}

abbrev pub IsApart : Label → Label → Type 0
IsApart x y = Differ x.standing y.standing

abbrev pub AreApart : List Label → Type 0
AreApart [] = Unit {0}
AreApart (x ∷ xs) = All (IsApart x) xs × AreApart xs

-- the open session of a label
abbrev pub session_in : List ℕ → List Labelled → Option ℕ
session_in name xs = session_now (standing_of name (labels_in xs))

-- some label has the session
abbrev pub IsHeld : ℕ → List Labelled → Type 0
IsHeld id xs = (name : List ℕ) × (session_in name xs ≡ Some id)

-- so has each open session of the world one
abbrev pub AreHeld : World → List Labelled → Type 0
AreHeld w xs = (id : ℕ) → is_open id w ≡ true → IsHeld id xs

-- between two events
pub record IsReady (e : Serving) (xs : List Labelled) : Type 0 where
  pub taken : NoneWaits e
  pub told : e.ended ≡ []
  pub shows : All (LabelShows e.world) xs
  pub apart : AreApart (labels_in xs)
  pub held : AreHeld e.world xs

-- after an event, before its bytes are handed over
pub record IsWaiting (e : Serving) (xs : List Labelled) : Type 0 where
  pub due : All (IsLineDue e) xs
  pub apart : AreApart (labels_in xs)
  pub held : AreHeld e.world xs

-- all that waits for a session is taken
abbrev pub all_taken_by : ℕ → Serving → Serving
all_taken_by id e = taken_by id (length (pending_of id e)) e

-- an open label's terminal takes all that waits for its session
abbrev pub ClientTakes : Serving → Client → Serving → Client → Type 0
ClientTakes e clients.Never f y = (f ≡ e) × (y ≡ clients.Never)
ClientTakes e (clients.Open id term) f y = (f ≡ all_taken_by id e) × ((t : Terminal) × (y ≡ clients.Open id t) × TermFed (pending_of id e) term t)
ClientTakes e (clients.Ended cause) f y = (f ≡ e) × (y ≡ clients.Ended cause)

pub record Takes (e : Serving) (x : Labelled) (f : Serving) (y : Labelled) : Type 0 where
  pub label : y.label ≡ x.label
  pub client : ClientTakes e x.client f y.client

-- so do all, one after another
abbrev pub AllTake : Serving → List Labelled → Serving → List Labelled → Type 0
AllTake e [] f ys = (f ≡ e) × (ys ≡ [])
AllTake e (x ∷ xs) f ys = (mid : Serving) × (y : Labelled) × (rest : List Labelled) × Takes e x mid y × AllTake mid xs f rest × (ys ≡ y ∷ rest)

-- the player from the first open on
abbrev pub player_of : Serving → List Labelled → Player
player_of e xs = playing e.world (labels_in xs)

-- the labels' clients after a byte of one of them
abbrev pub clients_keyed : Keyed → List ℕ → List Labelled → List Labelled
clients_keyed keyed.Quit name xs = map (ended_by name causes.Quit) xs
clients_keyed keyed.Done name xs = xs
clients_keyed keyed.NoSession name xs = xs
clients_keyed keyed.Short name xs = xs

-- exactly the text was printed; the line is refused exactly where there is none, and out of memory comes only where there is one
abbrev pub Prints : Result (Unit {0}) LineFault → List ℕ → List ℕ → Option (List ℕ) → Type 0
Prints (Ok done) old new text = option_map (λ (t : List ℕ). old ++ t) text ≡ Some new
Prints (Err lines.Bad) old new text = text ≡ None
Prints (Err lines.Short) old new text = IsSome text

-- printing fails only for out of memory
abbrev pub short_or : {E : Type 0} → Result (Unit {0}) E → Result (Unit {0}) LineFault
short_or (Ok done) = Ok done
short_or (Err e) = Err lines.Short

-- a fault is out of memory
abbrev pub NotBad : Result (Unit {0}) LineFault → Type 0
NotBad (Ok done) = Unit {0}
NotBad (Err lines.Bad) = ⊥
NotBad (Err lines.Short) = Unit {0}

-- what a line did, and what it put after what was printed; out of memory comes only where the line is not refused
abbrev pub Runs : Result (Unit {0}) LineFault → Player → Said → Player → List ℕ → List ℕ → Type 0
Runs (Ok done) s l t old new = (is_refused s l ≡ false) × ((print : List ℕ) × Does s l t print × (new ≡ old ++ print))
Runs (Err lines.Bad) s l t old new = is_refused s l ≡ true
Runs (Err lines.Short) s l t old new = is_refused s l ≡ false

-- the same of a line that may say nothing
abbrev pub RunsSaid : Result (Unit {0}) LineFault → Player → Option Said → Player → List ℕ → List ℕ → Type 0
RunsSaid (Ok done) s l t old new = (print : List ℕ) × LineDoes l s t print × (new ≡ old ++ print)
RunsSaid (Err fault) s l t old new = IsDue fault l s

-- THE SAME OVER THE ENGINE AND THE TERMINALS

-- a byte of a label
abbrev pub TypesLabel : Serving → List Labelled → List ℕ → ℕ → Serving → List Labelled → Type 0
TypesLabel e xs name byte f ys = TypesOne (session_in name xs) (player_of e xs) name byte (player_of f ys)

-- a line
abbrev pub RunsOn : Result (Unit {0}) LineFault → Serving → List Labelled → Said → Serving → List Labelled → List ℕ → List ℕ → Type 0
RunsOn result e xs l f ys old new = Runs result (player_of e xs) l (player_of f ys) old new

-- a line as it stands in the script, and what was written of it
abbrev pub TurnsLine : Result (Unit {0}) TurnFault → Serving → List Labelled → List ℕ → Serving → List Labelled → Option (List ℕ) → Option (List ℕ) → Type 0
TurnsLine result e xs line f ys old new = Turned result (player_of e xs) (said_in line) (player_of f ys) old new
