-- Buffers after a run are what its effects make of them.
use Rattle.std.proofs.Common.{◌≡◌, ℕ, zero, suc, Bool, true, false, cond, List, [], ◌∷◌, ◌++◌, Option, Some, None, refl, sym, ap, ◌∙◌}
use Rattle.mgs_model.specs.World.{World, Buffer}
use Rattle.mgs_model.specs.Outcome.{Outcome, Effect}
use Rattle.mgs_model.specs.Apply.{applied, outcome_in, without_session}
use Rattle.mgs_model.specs.Events.{Event, Open, Byte, Close, Doing, run, run_effects, step, event_effects, effect_in, turn, turn_in, turn_done, turn_effects, turns, turns_effects, rests, most_turns, begun, with_state, byte_done, is_open, can_open, settled, opened}
use Rattle.mgs_model.specs.Turns.{Turn, Rest, Keep, Do}
use Rattle.mgs_model.proofs.Paths.{turns_none, effects_none, turns_step, effects_step}
use Rattle.mgs_audit_laws.specs.Effects.{effects_done}

pub done_behind : (fs gs : List Effect) (buffers : List Buffer) → effects_done (fs ++ gs) buffers ≡ effects_done gs (effects_done fs buffers)
done_behind [] gs buffers = refl
done_behind (f ∷ fs) gs buffers = done_behind fs gs (effects_done (f ∷ []) buffers)

-- one act
applied_buffers : (w : World) (id : ℕ) (o : Option Outcome) → (applied w id o).buffers ≡ effects_done (effect_in o) w.buffers
applied_buffers w id None = refl
applied_buffers w id (Some o) = refl

-- one turn
turn_buffers : (id : ℕ) (stored : Bool) (t : Turn) (w : World) (memory : Option ℕ) → (turn_done id stored t w memory).world.buffers ≡ effects_done (turn_effects id stored t w memory) w.buffers
turn_buffers id stored Rest w memory = refl
turn_buffers id stored (Keep state) w memory = refl
turn_buffers id stored (Do state c) w None = applied_buffers (with_state id (λ old. state) w) id (outcome_in (with_state id (λ old. state) w) id c stored)
turn_buffers id stored (Do state c) w (Some zero) = refl
turn_buffers id stored (Do state c) w (Some (suc n)) = applied_buffers (with_state id (λ old. state) w) id (outcome_in (with_state id (λ old. state) w) id c stored)

turns_buffers : (n id : ℕ) (stored : Bool) (d : Doing) → (turns n id stored d).world.buffers ≡ effects_done (turns_effects n id stored d) d.world.buffers
turns_buffers zero id stored d =
    ap (λ (e : Doing). e.world.buffers) (turns_none id stored d)
    ∙ sym (ap (λ (fs : List Effect). effects_done fs d.world.buffers) (effects_none id stored d))
turns_buffers (suc n) id stored d =
    ap (λ (e : Doing). e.world.buffers) (turns_step n id stored d)
    ∙ by (rests (turn_in d.world id)) (turns_buffers n id stored (turn id stored d))
    ∙ sym (ap (λ (fs : List Effect). effects_done fs d.world.buffers) (effects_step n id stored d))
  where
    t : Turn
    t = turn_in d.world id

    first : List Effect
    first = turn_effects id stored t d.world d.memory

    later : List Effect
    later = turns_effects n id stored (turn id stored d)

    by : (b : Bool) → (turns n id stored (turn id stored d)).world.buffers ≡ effects_done later (turn id stored d).world.buffers
        → (cond b d (turns n id stored (turn id stored d))).world.buffers ≡ effects_done (cond b [] (first ++ later)) d.world.buffers
    by true rest = refl
    by false rest =
        rest
        ∙ ap (effects_done later) (turn_buffers id stored t d.world d.memory)
        ∙ sym (done_behind first later d.world.buffers)

-- where an event does nothing, it has no effect
opens_none : (b : Bool) (w v : World) → v.buffers ≡ w.buffers → (cond b v w).buffers ≡ w.buffers
opens_none true w v e = e
opens_none false w v e = refl

types : (b : Bool) (w v : World) (fs : List Effect) → v.buffers ≡ effects_done fs w.buffers → (cond b v w).buffers ≡ effects_done (cond b fs []) w.buffers
types true w v fs e = e
types false w v fs e = refl

pub step_buffers : (w : World) (e : Event) → (step w e).buffers ≡ effects_done (event_effects w e) w.buffers
step_buffers w (Open id user rows cols) = opens_none (can_open w id user rows cols) w (settled (opened w id user rows cols)) refl
step_buffers w (Byte id byte stored stop) =
    types (is_open id w) w (settled (byte_done w id byte stored stop)) (turns_effects most_turns id stored (begun w id byte stop)) (turns_buffers most_turns id stored (begun w id byte stop))
step_buffers w (Close id) = opens_none (is_open id w) w (settled (record w { sessions = without_session id w.sessions })) refl

pub are_of_effects : (w : World) (es : List Event) → (run w es).buffers ≡ effects_done (run_effects w es) w.buffers
are_of_effects w [] = refl
are_of_effects w (e ∷ es) =
    are_of_effects (step w e) es
    ∙ ap (effects_done (run_effects (step w e) es)) (step_buffers w e)
    ∙ sym (done_behind (event_effects w e) (run_effects (step w e) es) w.buffers)
