-- An event turn by turn: where memory is refused, and the worlds that it goes through.
use Rattle.std.proofs.Common.{◌≡◌, ℕ, suc, Bool, true, false, cond, [], ◌∷◌, ◌++◌, map, Option, Some, None, refl, ap, ◌∙◌}
use Rattle.std.specs.Prelude.{◌&&◌, find}
use Rattle.std.specs.Option.{option_and_then}
use Rattle.mgs_model.specs.World.{World, State}
use Rattle.mgs_model.specs.Apply.{outcome_in}
use Rattle.mgs_model.specs.Outcome.{Act, Outcome}
use Rattle.mgs_model.specs.Turns.{Turn, Rest, Keep, Do}
use Rattle.mgs_model.specs.Events.{Doing, turn_in, rests, turn, path, turns, is_used_up, with_state}
use Rattle.mgs_model.proofs.Paths.{path_step, turns_step}
use Rattle.mgs_laws.specs.Refusals.{is_act, next_outcome, refused_in, refuses}
use Rattle.mgs_laws.specs.Secrecy.{turn_worlds}

-- WHERE MEMORY IS REFUSED

-- to what comes next, or later
abbrev pub refused_of : ℕ → Bool → Turn → World → Option ℕ → Option Outcome → Option Outcome
refused_of id stored (Do state c) w memory later = cond (is_used_up memory) (outcome_in (with_state id (λ old. state) w) id c stored) later
refused_of id stored _ w memory later = later

pub refused_step : (n id : ℕ) (stored : Bool) (d : Doing) → refused_in (suc n) id stored d ≡ cond (rests (turn_in d.world id)) None (refused_of id stored (turn_in d.world id) d.world d.memory (refused_in n id stored (turn id stored d)))
unfolding refused_in
refused_step n id stored d = ap (λ ds. told (find (refuses id) ds)) (path_step n id stored d) ∙ by (rests (turn_in d.world id))
  where
    told : Option Doing → Option Outcome
    told o = option_and_then (λ e. next_outcome id stored (turn_in e.world id) e.world) o

    none : (used : Bool) (later : Option Doing) → told (cond (used && false) (Some d) later) ≡ told later
    none true later = refl
    none false later = refl

    acted : (state : State) (c : Act) → turn_in d.world id ≡ Do state c → (used : Bool) (later : Option Doing) → told (cond (used && true) (Some d) later) ≡ cond used (outcome_in (with_state id (λ old. state) d.world) id c stored) (told later)
    acted state c e true later = ap (λ (t : Turn). next_outcome id stored t d.world) e
    acted state c e false later = refl

    first : (t : Turn) → turn_in d.world id ≡ t → (later : Option Doing) → told (cond (is_used_up d.memory && is_act t) (Some d) later) ≡ refused_of id stored t d.world d.memory (told later)
    first Rest e later = none (is_used_up d.memory) later
    first (Keep state) e later = none (is_used_up d.memory) later
    first (Do state c) e later = acted state c e (is_used_up d.memory) later

    by : (b : Bool) → told (find (refuses id) (cond b [] (d ∷ path n id stored (turn id stored d)))) ≡ cond b None (refused_of id stored (turn_in d.world id) d.world d.memory (told (find (refuses id) (path n id stored (turn id stored d)))))
    by true = refl
    by false = first (turn_in d.world id) refl (find (refuses id) (path n id stored (turn id stored d)))

pub refused_next : (n id : ℕ) (stored : Bool) (d : Doing) → rests (turn_in d.world id) ≡ false → refused_in (suc n) id stored d ≡ refused_of id stored (turn_in d.world id) d.world d.memory (refused_in n id stored (turn id stored d))
refused_next n id stored d e =
    refused_step n id stored d ∙ ap (λ (b : Bool). cond b None (refused_of id stored (turn_in d.world id) d.world d.memory (refused_in n id stored (turn id stored d)))) e

-- THE WORLDS

pub worlds_step : (n id : ℕ) (stored : Bool) (d : Doing) → turn_worlds (suc n) id stored d ≡ d.world ∷ cond (rests (turn_in d.world id)) [] (turn_worlds n id stored (turn id stored d))
unfolding turn_worlds
worlds_step n id stored d =
    ap (λ ds. map (λ (e : Doing). e.world) ds ++ (turns (suc n) id stored d).world ∷ []) (path_step n id stored d)
    ∙ ap (λ (e : Doing). map (λ (f : Doing). f.world) (cond (rests (turn_in d.world id)) [] (d ∷ path n id stored (turn id stored d))) ++ e.world ∷ []) (turns_step n id stored d)
    ∙ by (rests (turn_in d.world id))
  where
    by : (b : Bool) → map (λ (e : Doing). e.world) (cond b [] (d ∷ path n id stored (turn id stored d))) ++ (let after : Doing = cond b d (turns n id stored (turn id stored d)) in after.world) ∷ []
        ≡ d.world ∷ cond b [] (map (λ (e : Doing). e.world) (path n id stored (turn id stored d)) ++ (turns n id stored (turn id stored d)).world ∷ [])
    by true = refl
    by false = refl
