-- A world that is served: for each open session, the bytes that wait for its terminal. Beside it what its store tells.
use Rattle.std.specs.Prelude.{◌≡◌, ℕ, ◌+◌, nat_le, Bool, true, false, cond, is_some, nat_eq, find, List, [], ◌∷◌, ◌++◌, map, length, All, Option, Some, None, if◌then◌else◌}
use Rattle.std.specs.Option.{option_or}
use Rattle.mgs_model.specs.World.{World}
use Rattle.mgs_model.specs.Apply.{remove_first}
use Rattle.mgs_model.specs.declared.errors.Keyed.{Keyed}
use Rattle.mgs_model.specs.declared.errors.Keyed.TheVariants as keyed
use Rattle.mgs_model.specs.declared.errors.OpenFault.{OpenFault}
use Rattle.mgs_model.specs.declared.errors.OpenFault.TheVariants.{Full}
use Rattle.mgs_model.specs.declared.limits.TheConstants.{SESSION_LIMIT}
use Rattle.mgs_model.specs.Events.{is_open, open_fault}
use Rattle.mgs_core.specs.Calls.{closed}
use Rattle.mgs_births.specs.Telling.{StoreTold}
use Rattle.mgs_world.specs.declared.size.Size.{Size}
use Rattle.mgs_world.specs.Worlds.{sizes}
use Rattle.mgs_engine.specs.declared.session_end.Cause.{Cause}
use Rattle.mgs_engine.specs.declared.session_end.Cause.TheVariants.{Quit}
use Rattle.mgs_engine.specs.Queues.{Queue, is_queue_of, waiting_in, find_queue, queue_id}

-- the sessions that ended stand with their causes until they are told, the oldest first
pub record Serving : Type 0 where
  pub world : World
  pub store : StoreTold
  pub queues : List Queue
  pub ended : List (ℕ × Cause)

-- the bytes that wait for a session; none where it is not open
abbrev pub pending_of : ℕ → Serving → List ℕ
pending_of id s = waiting_in (find_queue id s.queues)

-- the ids of the sessions that are served
abbrev pub queue_ids : Serving → List ℕ
queue_ids s = map queue_id s.queues

-- nothing waits for the sessions that are open
abbrev pub NoneWaits : Serving → Type 0
NoneWaits s = (id : ℕ) → is_open id s.world ≡ true → pending_of id s ≡ []

-- SLOTS: each open session has one, and each that ended until it is told
abbrev pub slots_used : Serving → ℕ
slots_used s = length s.world.sessions + length s.ended

-- why an open is refused: the world's own fault, or that no slot is left
abbrev pub opening_fault : Serving → List ℕ → ℕ → ℕ → Option OpenFault
opening_fault s user rows cols =
    option_or (open_fault s.world user rows cols) (if nat_le SESSION_LIMIT (slots_used s) then Some Full else None)

-- A SESSION ENDS, where it is open: it goes from the world with what waits for its terminal, and is to be told
abbrev pub is_served : ℕ → Serving → Bool
is_served id s = is_some (find_queue id s.queues)

abbrev pub to_tell : Cause → ℕ → Serving → List (ℕ × Cause)
to_tell cause id s = cond (is_served id s) ((id, cause) ∷ []) []

abbrev pub ended_by : Cause → ℕ → Serving → Serving
ended_by cause id s = record { world = closed s.world id; store = s.store; queues = remove_first (is_queue_of id) s.queues; ended = s.ended ++ to_tell cause id s }

-- whether a session is among those that ended, and among those that are to be told
abbrev pub is_end_of : ℕ → ℕ × Cause → Bool
is_end_of id e = nat_eq e.0 id

abbrev pub has_ended : ℕ → List (ℕ × Cause) → Bool
has_ended id ended = is_some (find (is_end_of id) ended)

abbrev pub is_to_tell : ℕ → Serving → Bool
is_to_tell id s = has_ended id s.ended

-- one after another
abbrev pub all_ended_by : Cause → List ℕ → Serving → Serving
all_ended_by cause [] s = s
all_ended_by cause (id ∷ ids) s = all_ended_by cause ids (ended_by cause id s)

-- the ids that are served after a byte of one of them, and what is to be told: `Quit` takes its session away
abbrev pub ids_keyed : Keyed → ℕ → List ℕ → List ℕ
ids_keyed keyed.Quit id xs = remove_first (λ x. nat_eq x id) xs
ids_keyed _ id xs = xs

abbrev pub ended_keyed : Keyed → ℕ → Serving → List (ℕ × Cause)
ended_keyed keyed.Quit id s = s.ended ++ to_tell Quit id s
ended_keyed _ id s = s.ended

-- WELL FORMED

abbrev pub size_id : Size → ℕ
size_id z = z.id

abbrev pub AreOthers : ℕ → List ℕ → Type 0
AreOthers id xs = All (λ (x : ℕ). nat_eq x id ≡ false) xs

-- no id stands twice
abbrev pub AreUnique : List ℕ → Type 0
AreUnique [] = Unit {0}
AreUnique (x ∷ xs) = AreOthers x xs × AreUnique xs

-- there is one queue for each open session, in their order, and no id stands twice
pub record IsWellFormed (s : Serving) : Type 0 where
  pub queues : queue_ids s ≡ map size_id (sizes s.world)
  pub unique : AreUnique (queue_ids s)
