-- What a call on the session at a place leaves, whatever its id, and whichever id comes next.
use Rattle.std.specs.Prelude.{◌≡◌, ◌+◌, ◌<◌, ℕ, Bool, zero, suc, true, List, [], ◌∷◌, length, slice_get, slice_set, Option, None, Some, Result, IfOk}
use Rattle.std.specs.List.{position_or_len}
use Rattle.mgs_model.specs.Access.{Directory}
use Rattle.mgs_model.specs.World.{World, find_session, has_id}
use Rattle.mgs_model.specs.World as model
use Rattle.mgs_model.specs.Picture.{Picture}
use Rattle.mgs_model.specs.Draw.{screen}
use Rattle.mgs_model.specs.Apply.{remove_first}
use Rattle.mgs_laws.specs.Apart.{Apart, settled_apart}
use Rattle.mgs_model.specs.Events.{opened}
use Rattle.mgs_model.specs.declared.errors.Keyed.{Keyed}
use Rattle.mgs_model.specs.declared.errors.Keyed.TheVariants as keyed
use Rattle.mgs_model.specs.declared.errors.Short.{Short}
use Rattle.mgs_model.specs.declared.echo_text.Message.TheVariants.{Says}
use Rattle.mgs_model.specs.declared.echo_text.Notice.TheVariants.{Silent}
use Rattle.mgs_model.specs.declared.touched.Touched.{Touched}
use Rattle.mgs_buffers.specs.MarkedBuffer.{MarkedBuffer}
use Rattle.mgs_plan.specs.Actions.{act_of}
use Rattle.mgs_seek.specs.Beginning.{search_held}
use Rattle.mgs_plan.specs.declared.key_act.KeyAct.{KeyAct}
use Rattle.mgs_seek.specs.Replacing.{remaining_at}
use Rattle.mgs_session.specs.declared.State.{State}
use Rattle.mgs_session.specs.declared.Session.{Session}
use Rattle.mgs_session.specs.declared.search.Search.{Search}
use Rattle.mgs_births.specs.Telling.{StoreTold}
use Rattle.mgs_world.specs.Worlds.{aim_old, state_at, session_id, world_of}
use Rattle.mgs_core.specs.declared.world.World as code
use Rattle.mgs_core.specs.declared.byte_acts.Before.{Before}
use Rattle.mgs_core.specs.declared.byte_acts.ModeBefore.{ModeBefore}
use Rattle.mgs_core.specs.declared.byte_acts.ByteAct.{ByteAct}
use Rattle.mgs_core.specs.Held.{AreSettled, IsHeld}
use Rattle.mgs_act.specs.Doing.{DoneBy}
use Rattle.mgs_world.specs.Acted.{IsRefusable, IsSameWorld}
use Rattle.mgs_core.specs.KeyActs.{started_by, started_world}
use Rattle.mgs_core.specs.Calls.{IsStill, KeyedBy, closed, differs_at}
use Rattle.mgs_core.specs.ByteActs.{deciding_world, is_replacement, may_want_memory, model_act, refused}
use Rattle.mgs_core.specs.Turns.{DoneReported, EventBy, IsLess, TurnedBy, is_played}

-- a place is that of the session of an id
abbrev pub IsPlace : ℕ → List Session → Type 0
IsPlace at xs = (id : ℕ) × (at ≡ position_or_len (session_id id) xs)

-- a world before a call, and after it: no call changes its directory
abbrev pub seen : {T : Type 0} → code.World T → Option ℕ → World
seen w next = world_of w.directory w.buffers w.sessions.items next

abbrev pub seen_after : {T : Type 0} → code.World T → code.World T → Option ℕ → World
seen_after old new next = world_of old.directory new.buffers new.sessions.items next

-- what a server keeps, and its next id
abbrev pub IsHeldIn : {T : Type 0} → code.World T → Option ℕ → Type 0
IsHeldIn w next = IsHeld w.directory w.buffers w.sessions.items next

-- all is as it was
abbrev pub IsAsItWas : {T : Type 0} → code.World T → code.World T → Type 0
IsAsItWas old new = IsSameWorld old.directory old.buffers new.buffers old.sessions.items new.sessions.items

-- all that was not touched is as it was
abbrev pub AreApart : {T : Type 0} → Touched → ℕ → code.World T → code.World T → Type 0
AreApart touched id old new = (next : Option ℕ) → Apart touched id (seen old next) (seen_after old new next)

abbrev pub AreApartAt : {T : Type 0} → Touched → ℕ → code.World T → code.World T → Type 0
AreApartAt touched at old new = (id : ℕ) → at ≡ position_or_len (session_id id) old.sessions.items → AreApart touched id old new

-- each window stands where it settles, if each did before
abbrev pub StaySettled : {T : Type 0} → code.World T → code.World T → Type 0
StaySettled old new = AreSettled old.directory old.buffers old.sessions.items → AreSettled old.directory new.buffers new.sessions.items

-- the windows settle that may differ
abbrev pub SettlesApart : Touched → ℕ → Directory → List MarkedBuffer → List MarkedBuffer → List Session → Type 0
SettlesApart touched id directory ks ls xs = (next : Option ℕ) → world_of directory ls xs next ≡ settled_apart touched id (world_of directory ks xs next)

-- the world is as it was but for the session of an id
abbrev pub IsSameBut : {T : Type 0} → ℕ → code.World T → code.World T → Type 0
IsSameBut id old new = (next : Option ℕ) → closed (seen_after old new next) id ≡ closed (seen old next) id

-- the world is without the session of an id
abbrev pub IsWithout : {T : Type 0} → ℕ → code.World T → code.World T → Type 0
IsWithout id old new = (next : Option ℕ) → seen_after old new next ≡ closed (seen old next) id

-- a session of this id, user and size is opened
abbrev pub IsOpened : {T : Type 0} → ℕ → List ℕ → ℕ → ℕ → code.World T → code.World T → Type 0
IsOpened id user rows cols old new = seen_after old new (Some (id + 1)) ≡ opened (seen old (Some id)) id user rows cols

-- whether what was touched can have changed the screen of the session at a place, in any directory and texts
abbrev pub TellsDiffering : Touched → ℕ → ℕ → List Session → Bool → Type 0
TellsDiffering touched id at xs result = (directory : Directory) (ks : List MarkedBuffer) (next : Option ℕ) → result ≡ differs_at touched id at (world_of directory ks xs next)

-- the screen of the session of an id
abbrev pub IsScreenById : ℕ → Directory → List MarkedBuffer → List Session → Picture → Type 0
IsScreenById id directory ks xs p =
    (next : Option ℕ) (x : model.Session) → find_session id (world_of directory ks xs next).sessions ≡ Some x → p ≡ screen (world_of directory ks xs next) x

-- what the session at a place holds is this now
abbrev pub state_put : ℕ → State → List Session → List Session
state_put at o [] = []
state_put zero o (x ∷ xs) = record x { state = o } ∷ xs
state_put (suc at) o (x ∷ xs) = x ∷ state_put at o xs

-- all is as it was but what the session at a place holds
pub record StateAlone (at : ℕ) (ks ls : List MarkedBuffer) (xs ys : List Session) : Type 0 where
  pub buffers : ls ≡ ks
  pub state : State
  pub is : ys ≡ state_put at state xs

-- a screen shows nothing of this: there is no prompt and no search, and nothing is told
pub record IsBare (o : State) : Type 0 where
  pub search : o.search ≡ None
  pub prompt : o.prompt ≡ None
  pub echo : o.echo ≡ (Says Silent)

-- what its screen shows of the session of an id is as it was, and so is all else but what it holds
abbrev pub StaysStill : {T : Type 0} → ℕ → code.World T → code.World T → Type 0
StaysStill id old new = (next : Option ℕ) → IsStill id (seen old next) (seen_after old new next)

-- less is left to do
abbrev pub LeavesLess : ℕ → List MarkedBuffer → List MarkedBuffer → List Session → List Session → Type 0
LeavesLess at ks ls xs ys = IsLess (remaining_at at ks xs) (remaining_at at ls ys) (state_at at xs).todo (state_at at ys).todo

-- an act of a key of one of these sessions is done, in the world in which it is decided: from this world to that, as the stores tell
abbrev pub IsKeyActDone : {S : Type 0} → (S → StoreTold) → ℕ → KeyAct → List Session → (Option ℕ → World) → S → (Option ℕ → World) → S → Touched → Type 0
IsKeyActDone told at done xs w s v t touched =
    (id : ℕ) (next : Option ℕ) → at ≡ position_or_len (session_id id) xs → DoneBy touched (started_world (started_by done) id (w next)) (v next) (told s) (told t) id (act_of done)

-- an act, where this was there before
abbrev pub IsDoneIn : {S : Type 0} → (S → StoreTold) → ℕ → ByteAct → ModeBefore → List Session → (Option ℕ → World) → S → (Option ℕ → World) → S → Result Touched Short → Type 0
IsDoneIn told at byte_act b xs w s v t result =
    IfOk result (λ touched. (id : ℕ) (next : Option ℕ) → at ≡ position_or_len (session_id id) xs
    → DoneBy touched (deciding_world b byte_act id (w next)) (v next) (told s) (told t) id (model_act (state_at at xs) b byte_act))

abbrev pub IsActDone : {S T : Type 0} → (S → StoreTold) → ℕ → ByteAct → ModeBefore → code.World T → S → code.World T → S → Result Touched Short → Type 0
IsActDone told at byte_act b old s new t result = IsDoneIn told at byte_act b old.sessions.items (seen old) s (seen_after old new) t result

-- and what was denied to it is recorded
abbrev pub IsActReported : {S T : Type 0} → (S → StoreTold) → ℕ → ByteAct → ModeBefore → code.World T → S → code.World T → S → Result Touched Short → Type 0
IsActReported told at byte_act b old s new t result =
    IfOk result (λ touched. (id : ℕ) (next : Option ℕ) → at ≡ position_or_len (session_id id) old.sessions.items
    → DoneReported touched (deciding_world b byte_act id (seen old next)) (seen_after old new next) (told s) (told t) id (model_act (state_at at old.sessions.items) b byte_act))

-- memory may be refused to it
abbrev pub IsActRefusable : {T : Type 0} → ℕ → ByteAct → ModeBefore → code.World T → Type 0
IsActRefusable at byte_act b w = IsRefusable w.directory at (model_act (state_at at w.sessions.items) b byte_act) w.buffers w.sessions.items

-- memory was refused to it, if it takes any: the session is told so, and what was there before is there again
pub record IsRefusedIn (directory : Directory) (at : ℕ) (b : Before) (byte_act : ByteAct) (ks ls : List MarkedBuffer) (xs ys : List Session) : Type 0 where
  pub wants : may_want_memory byte_act ≡ true
  pub told : (x : Session) (next : Option ℕ) → slice_get xs at ≡ Some x → world_of directory ls ys next ≡ world_of directory ks (slice_set xs at (refused b x)) next
  pub may : IsRefusable directory at (model_act (state_at at xs) b.mode byte_act) ks xs

abbrev pub IsActRefused : {T : Type 0} → ℕ → Before → ByteAct → code.World T → code.World T → Type 0
IsActRefused at b byte_act old new = IsRefusedIn old.directory at b byte_act old.buffers new.buffers old.sessions.items new.sessions.items

-- a replacement leaves fewer characters of the text that is replaced in
abbrev pub LeavesFewer : ByteAct → ℕ → List MarkedBuffer → List MarkedBuffer → List Session → List Session → Type 0
LeavesFewer byte_act at ks ls xs ys =
    (s t : Search) → is_replacement byte_act ≡ true → search_held at xs ≡ Some s → search_held at ys ≡ Some t → 0 < length (aim_old s.aim) → remaining_at at ls ys < remaining_at at ks xs

-- A TURN, an event before it settles, a byte before its session is taken out, and a byte: from this world and store to that
abbrev pub IsTurned : {S T : Type 0} → (S → StoreTold) → ℕ → code.World T → S → code.World T → S → Keyed → Type 0
IsTurned told at old s new t result =
    (id : ℕ) → at ≡ position_or_len (session_id id) old.sessions.items → (next : Option ℕ)
    → TurnedBy (is_played (state_at at old.sessions.items).todo) (state_at at new.sessions.items).todo (seen old next) (seen_after old new next) (told s) (told t) id result

abbrev pub IsEvent : {S T : Type 0} → (S → StoreTold) → ℕ → code.World T → S → code.World T → S → Keyed → Type 0
IsEvent told at old s new t result =
    (id : ℕ) → at ≡ position_or_len (session_id id) old.sessions.items → (next : Option ℕ) → EventBy id (seen old next) (seen_after old new next) (told s) (told t) result

-- a byte, before the session that it ends is taken out
abbrev pub TypedBy : World → World → StoreTold → StoreTold → ℕ → ℕ → Keyed → Type 0
TypedBy old new before after id byte keyed.Quit = KeyedBy old (record old { sessions = remove_first (has_id id) old.sessions }) before after id byte keyed.Quit
TypedBy old new before after id byte result = KeyedBy old new before after id byte result

abbrev pub IsTyped : {S T : Type 0} → (S → StoreTold) → ℕ → ℕ → code.World T → S → code.World T → S → Keyed → Type 0
IsTyped told id byte old s new t result = (next : Option ℕ) → TypedBy (seen old next) (seen_after old new next) (told s) (told t) id byte result

abbrev pub IsByte : {S T : Type 0} → (S → StoreTold) → ℕ → ℕ → code.World T → S → code.World T → S → Keyed → Type 0
IsByte told id byte old s new t result = (next : Option ℕ) → KeyedBy (seen old next) (seen_after old new next) (told s) (told t) id byte result
