-- WHAT A LIST OF CALLS DOES: the world is the run of its events, and the bytes draw the last screens.
use Rattle.std.specs.Prelude.{◌≡◌, ℕ, ◌<◌, List, [], ◌∷◌, ◌++◌, Some, None, Ok, Err, length, take, drop, map, slice_get}
use Rattle.mgs_model.specs.Draw.{screen}
use Rattle.mgs_model.specs.Events.{Event, Open, Byte, Close, run}
use Rattle.mgs_model.specs.Picture.{Picture}
use Rattle.mgs_model.specs.World.{Session, find_session}
use Rattle.mgs_term.specs.Drawing.{Anything, Draws}
use Rattle.mgs_term.specs.Screen.{Screen, IsScreen}
use Rattle.mgs_paint.specs.Painting.{shown}
use Rattle.mgs_births.specs.Reports.{run_reports}
use Rattle.mgs_births.specs.Telling.{Tells}
use Rattle.mgs_wire.specs.Calls as wire
use Rattle.mgs_engine.specs.declared.tape.Answer.{Answer}
use Rattle.mgs_engine.specs.declared.tape.Answer.TheVariants as answers
use Rattle.mgs_engine.specs.Does.{Does, taken_by}
use Rattle.mgs_engine.specs.Drives.{Asked, Opens, Types, Closes, Takes, Asks, Taped}
use Rattle.mgs_engine.specs.Serving.{Serving, pending_of}
use Rattle.mgs_engine.specs.Slow.{slow_ids}
use Rattle.mgs_engine.specs.Tapes.{bytes_on}

-- EVENTS. A call leads from what is served to what is served then. An open is one event where it answered Ok; a byte is one, with a
-- close for each session that fell behind by it; a close is one. Of a byte, the store's answer, the number of acts for which there was
-- memory and the sessions that fell behind are those with which it was handled.
abbrev pub HasEvents : Serving → Asked → Answer → Serving → List Event → Type 0
HasEvents s (Opens user rows cols) (answers.Open (Ok id)) t es = Does s (wire.Open user rows cols (Ok id)) t × (es ≡ Open id user rows cols ∷ [])
HasEvents s (Opens user rows cols) (answers.Open (Err fault)) t es = Does s (wire.Open user rows cols (Err fault)) t × (es ≡ [])
HasEvents s (Types id byte) (answers.Byte a) t es =
    (d : Does s (wire.Byte id byte a) t) × (es ≡ Byte id byte d.0.step.stored d.0.step.stop ∷ map (λ i. Close i) (slow_ids s d.0.typed.world))
HasEvents s (Closes id) answers.Close t es = Does s (wire.Close id) t × (es ≡ Close id ∷ [])
HasEvents s (Takes id most) (answers.Took n) t es = (t ≡ taken_by id n s) × (es ≡ [])
HasEvents s Asks (answers.Ended a) t es = (a ≡ slice_get s.ended 0) × (t ≡ record s { ended = drop 1 s.ended }) × (es ≡ [])
HasEvents _ _ _ _ _ = ⊥

-- one after another, each from what the calls before it left
abbrev pub HaveEvents : Serving → List Asked → List Answer → Serving → List Event → Type 0
HaveEvents s [] [] t es = (es ≡ []) × (t ≡ s)
HaveEvents s (c ∷ cs) (a ∷ told) t es = (mid : Serving) × (first rest : List Event) × HasEvents s c a mid first × HaveEvents mid cs told t rest × (es ≡ first ++ rest)
HaveEvents _ _ _ _ _ = ⊥

-- the calls have these answers, put behind those on the tape, and the world after is that of their events
pub record IsRun (r : Taped) (cs : List Asked) (s : Taped) : Type 0 where
  pub answers : List Answer
  pub told : s.tape.answers ≡ r.tape.answers ++ answers
  pub events : List Event
  pub each : HaveEvents r.serving cs answers s.serving events
  pub world : s.serving.world ≡ run r.serving.world events
  -- what the store accepted is what they save, the buffers that they make and kill are recorded, and their deeds and what was denied are on
  -- the tape of the store
  pub tells : Tells (run_reports r.serving.world events) r.serving.store s.serving.store

-- the same of those in front, and no others
abbrev pub IsRunOfSome : Taped → List Asked → Taped → Type 0
IsRunOfSome r cs s = (k : ℕ) × (k < length cs) × IsRun r (take k cs) s

-- SCREENS: the bytes turn any terminal of the picture's size, whatever it shows, into one that shows the picture
abbrev pub Gives : Picture → List ℕ → Type 0
Gives p bytes = (t : Screen) → IsScreen t → t.rows ≡ p.rows → t.cols ≡ p.cols → Draws Anything bytes t (shown p)

-- the bytes that were put on the tape of a session since, and then those that wait, give its screen
pub record IsTaped (before : List ℕ) (s : Taped) (id : ℕ) (y : Session) : Type 0 where
  pub bytes : List ℕ
  pub added : bytes_on id s.tape ≡ before ++ bytes
  pub gives : Gives (screen s.serving.world y) (bytes ++ pending_of id s.serving)

-- for each session that was not open before, and is after
abbrev pub AreTaped : Taped → Taped → Type 0
AreTaped r s = (id : ℕ) (y : Session) → find_session id r.serving.world.sessions ≡ None → find_session id s.serving.world.sessions ≡ Some y → IsTaped (bytes_on id r.tape) s id y
