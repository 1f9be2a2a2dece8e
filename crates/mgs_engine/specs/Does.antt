-- What the calls of connections do to what is served.
use Rattle.std.specs.Prelude.{◌≡◌, ℕ, Some, IfOk, OnOk}
use Rattle.mgs_model.specs.Apply.{change_first}
use Rattle.mgs_model.specs.Events as events
use Rattle.mgs_model.specs.Events.{step}
use Rattle.mgs_model.specs.World.{Session, World, find_session}
use Rattle.mgs_model.specs.Draw.{screen}
use Rattle.mgs_paint.specs.Painting.{Paints}
use Rattle.mgs_wire.specs.Calls.{Call, Open, Refuse, Byte, Close, Took}
use Rattle.mgs_engine.specs.declared.session_end.Cause.TheVariants.{Closed}
use Rattle.mgs_engine.specs.Handled.{Admits, Handles}
use Rattle.mgs_engine.specs.Painted.{Painted}
use Rattle.mgs_engine.specs.Queues.{after_taking, is_queue_of}
use Rattle.mgs_engine.specs.Serving.{Serving, ended_by, pending_of}

-- the bytes that wait for a session paint its screen, whatever the terminal showed
abbrev pub IsPaintedWhole : Serving → ℕ → Type 0
IsPaintedWhole s id = (x : Session) × (find_session id s.world.sessions ≡ Some x) × Paints (screen s.world x) (pending_of id s)

-- so for each session that is open in a world
abbrev pub ArePaintedWhole : World → Serving → Type 0
ArePaintedWhole w s = (id : ℕ) (x : Session) → find_session id w.sessions ≡ Some x → Paints (screen w x) (pending_of id s)

-- the first bytes that wait for a session's terminal were taken
abbrev pub taken_by : ℕ → ℕ → Serving → Serving
taken_by id n s = record s { queues = change_first (is_queue_of id) (after_taking n) s.queues }

-- a call leads from what is served to what is served then, and its bytes draw the screens
abbrev pub Does : Serving → Call → Serving → Type 0
Does old (Open user rows cols answer) new = Admits old new user rows cols answer × OnOk answer (Painted old new) × IfOk answer (IsPaintedWhole new)
Does old (Refuse name cause) new = new ≡ old
Does old (Byte id byte answer) new = Handles old new id byte answer × Painted old new
Does old (Close id) new = (new ≡ ended_by Closed id old) × Painted old new × (new.world ≡ step old.world (events.Close id))
Does old (Took id n) new = new ≡ taken_by id n old
