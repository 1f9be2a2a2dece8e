-- CALLS: what becomes of what is served.
use Rattle.std.specs.Prelude.{◌≡◌, ℕ, true, List, [], map, IfOk, OnErr, Result}
use Rattle.mgs_model.specs.Events.{Open, Close, run, step, can_open}
use Rattle.mgs_model.specs.declared.errors.Keyed.{Keyed}
use Rattle.mgs_model.specs.declared.errors.Keyed.TheVariants as keyed
use Rattle.mgs_model.specs.declared.errors.OpenFault.{OpenFault}
use Rattle.mgs_world.specs.Worlds.{sizes}
use Rattle.mgs_core.specs.Calls.{KeyedBy, OpenAnswers, sizes_keyed}
use Rattle.mgs_engine.specs.declared.session_end.Cause.TheVariants.{Quit, Slow}
use Rattle.mgs_engine.specs.Serving.{NoneWaits, Serving, all_ended_by, ended_by, ended_keyed, ids_keyed, opening_fault, queue_ids}
use Rattle.mgs_engine.specs.Slow.{slow_ids}

-- AN OPEN: the id is the next one, and the world after is the step of the world before. Each fault is answered exactly
-- where it is due, and changes nothing.
pub record Admits (old new : Serving) (user : List ℕ) (rows cols : ℕ) (result : Result ℕ OpenFault) : Type 0 where
  pub ok : IfOk result (λ id. (id ≡ old.world.next_id) × (can_open old.world id user rows cols ≡ true) × (new.world ≡ step old.world (Open id user rows cols)))
  pub store : new.store ≡ old.store
  pub ended : new.ended ≡ old.ended
  pub err : OnErr result (new ≡ old)
  pub answer : OpenAnswers result (opening_fault old user rows cols)

-- A BYTE: first its own step; then each session that falls behind by it is closed, in the order in which they opened
pub record Handles (old new : Serving) (id byte : ℕ) (result : Keyed) : Type 0 where
  -- what is served after the byte's own step
  pub typed : Serving
  pub step : KeyedBy old.world typed.world old.store typed.store id byte result
  pub sizes : sizes typed.world ≡ sizes_keyed result id (sizes old.world)
  pub next : typed.world.next_id ≡ old.world.next_id
  pub queues : queue_ids typed ≡ ids_keyed result id (queue_ids old)
  pub ended : typed.ended ≡ ended_keyed result id old
  pub slow : new ≡ all_ended_by Slow (slow_ids old typed.world) typed
  pub closes : new.world ≡ run typed.world (map (λ i. Close i) (slow_ids old typed.world))
  -- a byte that ends its session changes no other screen, so none falls behind
  pub quit : result ≡ keyed.Quit → typed ≡ ended_by Quit id old
  pub still : result ≡ keyed.Quit → slow_ids old typed.world ≡ []
  -- where nothing waits for the open sessions, none falls behind
  pub prompt : NoneWaits old → slow_ids old typed.world ≡ []
