-- The effects of an event, and of a run, are those that its reports have; and reports turn by turn.
use Rattle.std.proofs.Common.{◌≡◌, ℕ, zero, suc, Bool, true, false, cond, List, [], ◌∷◌, ◌++◌, map, Option, Some, None, refl, ap, ap₂, ◌∙◌, append-nil}
use Rattle.std.specs.List.{flat_map}
use Rattle.mgs_model.specs.World.{World}
use Rattle.mgs_model.specs.View.{View, view_of}
use Rattle.mgs_model.specs.Outcome.{Act, Effect}
use Rattle.mgs_model.specs.Acts.{Request, needs, request_judged}
use Rattle.mgs_model.specs.Turns.{Turn, Do}
use Rattle.mgs_model.specs.Events.{Doing, Byte, act_effects, begun, is_open, is_used_up, most_turns, path, rests, step, turn, turn_effects, turn_in, turns_effects, with_state}
use Rattle.mgs_model.specs.declared.entry.Decision.{Decision}
use Rattle.mgs_model.specs.declared.entry.Decision.TheVariants.{Granted, DeniedBy, NotGranted}
use Rattle.mgs_model.proofs.Paths.{path_step}
use Rattle.mgs_births.specs.Reports.{Report, Did, act_reports, act_refusals, effects_in, event_reports, refused_first, refusals, refusals_in, run_reports, turn_reports, turns_reports}
use Rattle.mgs_births.specs.Reporting.{EffectsAreReported, RunsAreReported}
use Rattle.mgs_births.proofs.Tells.{effects_twice}

-- A DENIAL HAS NO EFFECT

first_effects : (buffer : List ℕ) (d : Decision) (rest : List Report) → effects_in rest ≡ [] → effects_in (refused_first buffer d rest) ≡ []
first_effects buffer Granted rest e = e
first_effects buffer (DeniedBy n right) rest e = refl
first_effects buffer (NotGranted right) rest e = refl

refusals_effects : (v : View) (rs : List Request) → effects_in (refusals v rs) ≡ []
refusals_effects v [] = refl
refusals_effects v (r ∷ rs) = first_effects r.buffer (request_judged v r) (refusals v rs) (refusals_effects v rs)

pub denied_effects : (o : Option View) (c : Act) → effects_in (refusals_in o c) ≡ []
denied_effects None c = refl
denied_effects (Some v) c = refusals_effects v (needs v c)

pub did_effects : (es : List Effect) → effects_in (map Did es) ≡ es
did_effects [] = refl
did_effects (e ∷ es) = ap (λ (fs : List Effect). e ∷ fs) (did_effects es)

pub act_reported : (w : World) (id : ℕ) (c : Act) (stored : Bool) → effects_in (act_reports w id c stored) ≡ act_effects w id c stored
act_reported w id c stored =
    effects_twice (map Did (act_effects w id c stored)) (act_refusals w id c)
    ∙ ap₂ (λ (es fs : List Effect). es ++ fs) (did_effects (act_effects w id c stored)) (denied_effects (view_of w id) c)
    ∙ append-nil (act_effects w id c stored)

turn_reported : (id : ℕ) (stored : Bool) (t : Turn) (w : World) (memory : Option ℕ) → effects_in (turn_reports id stored t w memory) ≡ turn_effects id stored t w memory
turn_reported id stored (Do state c) w memory = by (is_used_up memory)
  where
    v : World
    v = with_state id (λ old. state) w

    by : (b : Bool) → effects_in (cond b [] (act_reports v id c stored)) ≡ cond b [] (act_effects v id c stored)
    by true = refl
    by false = act_reported v id c stored
turn_reported id stored _ w memory = refl

along : (id : ℕ) (stored : Bool) (ds : List Doing)
    → effects_in (flat_map (λ (e : Doing). turn_reports id stored (turn_in e.world id) e.world e.memory) ds) ≡ flat_map (λ (e : Doing). turn_effects id stored (turn_in e.world id) e.world e.memory) ds
along id stored [] = refl
along id stored (d ∷ ds) =
    effects_twice (turn_reports id stored (turn_in d.world id) d.world d.memory) (flat_map (λ (e : Doing). turn_reports id stored (turn_in e.world id) e.world e.memory) ds)
    ∙ ap₂ (λ (es fs : List Effect). es ++ fs) (turn_reported id stored (turn_in d.world id) d.world d.memory) (along id stored ds)

turns_reported : (n id : ℕ) (stored : Bool) (d : Doing) → effects_in (turns_reports n id stored d) ≡ turns_effects n id stored d
unfolding turns_reports turns_effects
turns_reported n id stored d = along id stored (path n id stored d)

pub effects_are_reported : EffectsAreReported
effects_are_reported w (Byte id byte stored stop) = by (is_open id w)
  where
    by : (b : Bool) → effects_in (cond b (turns_reports most_turns id stored (begun w id byte stop)) []) ≡ cond b (turns_effects most_turns id stored (begun w id byte stop)) []
    by true = turns_reported most_turns id stored (begun w id byte stop)
    by false = refl
effects_are_reported w _ = refl

pub runs_are_reported : RunsAreReported
runs_are_reported w [] = refl
runs_are_reported w (e ∷ es) =
    effects_twice (event_reports w e) (run_reports (step w e) es)
    ∙ ap₂ (λ (fs gs : List Effect). fs ++ gs) (effects_are_reported w e) (runs_are_reported (step w e) es)

-- TURN BY TURN

reports_none : (id : ℕ) (stored : Bool) (d : Doing) → turns_reports zero id stored d ≡ []
unfolding turns_reports path
reports_none id stored d = refl

reports_step : (n id : ℕ) (stored : Bool) (d : Doing) → turns_reports (suc n) id stored d ≡ cond (rests (turn_in d.world id)) [] (turn_reports id stored (turn_in d.world id) d.world d.memory ++ turns_reports n id stored (turn id stored d))
unfolding turns_reports
reports_step n id stored d = ap (flat_map done) (path_step n id stored d) ∙ by (rests (turn_in d.world id))
  where
    done : Doing → List Report
    done e = turn_reports id stored (turn_in e.world id) e.world e.memory

    by : (b : Bool) → flat_map done (cond b [] (d ∷ path n id stored (turn id stored d))) ≡ cond b [] (done d ++ flat_map done (path n id stored (turn id stored d)))
    by true = refl
    by false = refl

pub reports_rest : (n id : ℕ) (stored : Bool) (d : Doing) → rests (turn_in d.world id) ≡ true → turns_reports n id stored d ≡ []
reports_rest zero id stored d e = reports_none id stored d
reports_rest (suc n) id stored d e =
    reports_step n id stored d ∙ ap (λ (b : Bool). cond b [] (turn_reports id stored (turn_in d.world id) d.world d.memory ++ turns_reports n id stored (turn id stored d))) e

pub reports_next : (n id : ℕ) (stored : Bool) (d : Doing) → rests (turn_in d.world id) ≡ false → turns_reports (suc n) id stored d ≡ turn_reports id stored (turn_in d.world id) d.world d.memory ++ turns_reports n id stored (turn id stored d)
reports_next n id stored d e =
    reports_step n id stored d ∙ ap (λ (b : Bool). cond b [] (turn_reports id stored (turn_in d.world id) d.world d.memory ++ turns_reports n id stored (turn id stored d))) e
