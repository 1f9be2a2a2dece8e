-- What a call of a server leaves, and what it answers: one call is one step of the model.
use Rattle.std.specs.Prelude.{◌≡◌, ◌↔◌, ℕ, Bool, true, false, List, [], Option, Some, None, IsSome, slice_get, IfOk, OnErr, Result, Ok, Err}
use Rattle.mgs_model.specs.Access.{Directory}
use Rattle.mgs_model.specs.World.{World, Buffer, Session, State, has_id, find_session}
use Rattle.mgs_laws.specs.Apart.{may_differ}
use Rattle.mgs_model.specs.Apply.{remove_first}
use Rattle.mgs_model.specs.declared.echo_text.Message.{Message}
use Rattle.mgs_model.specs.declared.echo_text.Message.TheVariants.{Says}
use Rattle.mgs_model.specs.declared.echo_text.Notice.TheVariants.{Silent}
use Rattle.mgs_model.specs.declared.touched.Touched.{Touched}
use Rattle.mgs_model.specs.Events.{Open, Byte, step, can_open, open_fault, with_state}
use Rattle.mgs_laws.specs.Refusals.{refused_act, may_be_refused}
use Rattle.mgs_model.specs.declared.errors.Keyed.{Keyed}
use Rattle.mgs_model.specs.declared.errors.Keyed.TheVariants as keyed
use Rattle.mgs_model.specs.declared.errors.OpenFault.{OpenFault}
use Rattle.mgs_model.specs.declared.errors.OpenFault.TheVariants.{NoUser, Size, Full, Short}
use Rattle.mgs_store.specs.Stores.{IsCounted}
use Rattle.mgs_births.specs.Reports.{event_reports}
use Rattle.mgs_births.specs.Telling.{StoreTold, Tells}
use Rattle.mgs_world.specs.declared.size.Size as world
use Rattle.mgs_world.specs.Worlds.{is_size_of}

-- A NEW SERVER: the world of these users and buffers, without a session
abbrev pub new_world : Directory → List Buffer → World
new_world directory buffers = record { directory = directory; buffers = buffers; sessions = []; next_id = 1 }

-- A BYTE: the world after is the step of the world before, for some answer of the store, and some number of acts for
-- which there is memory. `Short` is answered exactly where memory was refused, `NoSession` exactly where no session has
-- the id, and `Quit` exactly where the byte took its session away. Memory is refused only to an act that may be refused.
-- The store's answer is a refusal only where a fault was counted, what the byte saves was accepted, and its deeds and what was denied to
-- it are on the tape. Where memory was refused to the
-- byte's first act, as to each save that is refused, the store was not asked, and is as it was.
pub record KeyedBy (old new : World) (before after : StoreTold) (id byte : ℕ) (result : Keyed) : Type 0 where
  pub stored : Bool
  pub stop : Option ℕ
  pub step : new ≡ step old (Byte id byte stored stop)
  pub short : (result ≡ keyed.Short) ↔ IsSome stop
  pub no_session : (result ≡ keyed.NoSession) ↔ (find_session id old.sessions ≡ None)
  pub quit : (result ≡ keyed.Quit) ↔ (IsSome (find_session id old.sessions) × (find_session id new.sessions ≡ None))
  pub may : IsSome stop → may_be_refused (refused_act old id byte stored stop) ≡ true
  pub fault : stored ≡ false → IsCounted before.failed after.failed
  pub tells : Tells (event_reports old (Byte id byte stored stop)) before after
  pub unasked : stop ≡ Some 0 → after ≡ before

-- the world is as it was, but for what the session of an id holds, and of that what its screen shows is as it was
pub record IsStill (id : ℕ) (w v : World) : Type 0 where
  pub state : State
  pub is : v ≡ with_state id (λ was. state) w
  pub face : (x : Session) → find_session id w.sessions ≡ Some x → (state.mode ≡ x.state.mode) × (state.input ≡ x.state.input) × (state.echo ≡ x.state.echo)

-- the ids and sizes of the sessions after a byte of one of them: `Quit` takes its session away
abbrev pub sizes_keyed : Keyed → ℕ → List world.Size → List world.Size
sizes_keyed keyed.Quit id xs = remove_first (is_size_of id) xs
sizes_keyed _ id xs = xs

-- what is answered: each fault exactly where it is due, and out of memory only where none is
abbrev pub OpenAnswers : Result ℕ OpenFault → Option OpenFault → Type 0
OpenAnswers (Ok id) due = due ≡ None
OpenAnswers (Err Short) due = due ≡ None
OpenAnswers (Err NoUser) due = due ≡ Some NoUser
OpenAnswers (Err Size) due = due ≡ Some Size
OpenAnswers (Err Full) due = due ≡ Some Full

-- OPENING: the id is the next one, and the world after is the step of the world before
pub record OpenedBy (old new : World) (user : List ℕ) (rows cols : ℕ) (result : Result ℕ OpenFault) : Type 0 where
  pub ok : IfOk result (λ id. (id ≡ old.next_id) × (can_open old id user rows cols ≡ true) × (new ≡ step old (Open id user rows cols)))
  pub err : OnErr result (new ≡ old)
  pub answer : OpenAnswers result (open_fault old user rows cols)

-- CLOSING: the world without the session of an id
abbrev pub closed : World → ℕ → World
closed w id = record w { sessions = remove_first (has_id id) w.sessions }

-- WHAT IS TOLD OF A SESSION, where there is one: whose it is, and its echo line
abbrev pub user_in : Option Session → Option (List ℕ)
user_in None = None
user_in (Some x) = Some x.user

abbrev pub echo_in : Option Session → Message
echo_in None = Says Silent
echo_in (Some x) = x.state.echo

-- WHAT MAY DIFFER after an event of a session that touched this: the screen of the session at a place

abbrev pub found_differs : Touched → ℕ → Option Session → Bool
found_differs touched id None = true
found_differs touched id (Some x) = may_differ touched id x

abbrev pub differs_at : Touched → ℕ → ℕ → World → Bool
differs_at touched id at w = found_differs touched id (slice_get w.sessions at)
