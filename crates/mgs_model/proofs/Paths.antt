-- An event turn by turn: what one turn more makes of it, and what each turn keeps.
use Rattle.std.proofs.Common.{◌≡◌, ℕ, zero, suc, Bool, true, false, cond, List, [], ◌∷◌, ◌++◌, refl, sym, ap, ◌∙◌, subst}
use Rattle.std.specs.List.{flat_map, fold}
use Rattle.mgs_model.specs.Outcome.{Effect}
use Rattle.mgs_model.specs.Events.{Doing, turn_in, rests, turn, path, turns, turn_effects, turns_effects}

-- NO TURN

pub turns_none : (id : ℕ) (stored : Bool) (d : Doing) → turns zero id stored d ≡ d
unfolding turns path
turns_none id stored d = refl

pub effects_none : (id : ℕ) (stored : Bool) (d : Doing) → turns_effects zero id stored d ≡ []
unfolding turns_effects path
effects_none id stored d = refl

-- ONE TURN MORE, or none where nothing is left to do

pub path_step : (n id : ℕ) (stored : Bool) (d : Doing) → path (suc n) id stored d ≡ cond (rests (turn_in d.world id)) [] (d ∷ path n id stored (turn id stored d))
unfolding path
path_step n id stored d = by (rests (turn_in d.world id))
  where
    by : (b : Bool) → elim b as (λ _. List Doing) [ true ↦ [] | false ↦ d ∷ path n id stored (turn id stored d) ] ≡ cond b [] (d ∷ path n id stored (turn id stored d))
    by true = refl
    by false = refl

pub turns_step : (n id : ℕ) (stored : Bool) (d : Doing) → turns (suc n) id stored d ≡ cond (rests (turn_in d.world id)) d (turns n id stored (turn id stored d))
unfolding turns
turns_step n id stored d = ap (fold (λ _ e. turn id stored e) d) (path_step n id stored d) ∙ by (rests (turn_in d.world id))
  where
    by : (b : Bool) → fold (λ _ e. turn id stored e) d (cond b [] (d ∷ path n id stored (turn id stored d))) ≡ cond b d (turns n id stored (turn id stored d))
    by true = refl
    by false = refl

pub effects_step : (n id : ℕ) (stored : Bool) (d : Doing) → turns_effects (suc n) id stored d ≡ cond (rests (turn_in d.world id)) [] (turn_effects id stored (turn_in d.world id) d.world d.memory ++ turns_effects n id stored (turn id stored d))
unfolding turns_effects
effects_step n id stored d = ap (flat_map done) (path_step n id stored d) ∙ by (rests (turn_in d.world id))
  where
    done : Doing → List Effect
    done e = turn_effects id stored (turn_in e.world id) e.world e.memory

    by : (b : Bool) → flat_map done (cond b [] (d ∷ path n id stored (turn id stored d))) ≡ cond b [] (done d ++ flat_map done (path n id stored (turn id stored d)))
    by true = refl
    by false = refl

-- WHERE NOTHING IS LEFT TO DO

pub turns_rest : (n id : ℕ) (stored : Bool) (d : Doing) → rests (turn_in d.world id) ≡ true → turns n id stored d ≡ d
turns_rest zero id stored d e = turns_none id stored d
turns_rest (suc n) id stored d e = turns_step n id stored d ∙ ap (λ (b : Bool). cond b d (turns n id stored (turn id stored d))) e

pub effects_rest : (n id : ℕ) (stored : Bool) (d : Doing) → rests (turn_in d.world id) ≡ true → turns_effects n id stored d ≡ []
effects_rest zero id stored d e = effects_none id stored d
effects_rest (suc n) id stored d e =
    effects_step n id stored d ∙ ap (λ (b : Bool). cond b [] (turn_effects id stored (turn_in d.world id) d.world d.memory ++ turns_effects n id stored (turn id stored d))) e

-- WHERE SOMETHING IS

pub turns_next : (n id : ℕ) (stored : Bool) (d : Doing) → rests (turn_in d.world id) ≡ false → turns (suc n) id stored d ≡ turns n id stored (turn id stored d)
turns_next n id stored d e = turns_step n id stored d ∙ ap (λ (b : Bool). cond b d (turns n id stored (turn id stored d))) e

pub effects_next : (n id : ℕ) (stored : Bool) (d : Doing) → rests (turn_in d.world id) ≡ false → turns_effects (suc n) id stored d ≡ turn_effects id stored (turn_in d.world id) d.world d.memory ++ turns_effects n id stored (turn id stored d)
effects_next n id stored d e =
    effects_step n id stored d ∙ ap (λ (b : Bool). cond b [] (turn_effects id stored (turn_in d.world id) d.world d.memory ++ turns_effects n id stored (turn id stored d))) e

-- WHAT EACH TURN KEEPS, all keep
module _ (P : Doing → Type 0) (id : ℕ) (stored : Bool) (keeps : (d : Doing) → P d → P (turn id stored d)) where
  pub all_turns : (n : ℕ) (d : Doing) → P d → P (turns n id stored d)
  all_turns zero d h = subst P (sym (turns_none id stored d)) h
  all_turns (suc n) d h = subst P (sym (turns_step n id stored d)) (by (rests (turn_in d.world id)) (all_turns n (turn id stored d) (keeps d h)))
    where
      by : (b : Bool) → P (turns n id stored (turn id stored d)) → P (cond b d (turns n id stored (turn id stored d)))
      by true ih = h
      by false ih = ih
