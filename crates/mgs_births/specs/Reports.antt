-- What an act reports: its effect, and the right that was denied, if one was.
use Rattle.std.specs.Prelude.{ℕ, Bool, List, [], ◌∷◌, ◌++◌, map, Option, Some, None, cond}
use Rattle.std.specs.List.{flat_map}
use Rattle.mgs_model.specs.World.{World}
use Rattle.mgs_model.specs.View.{View, view_of}
use Rattle.mgs_model.specs.Outcome.{Act, Effect}
use Rattle.mgs_model.specs.Acts.{Request, needs, request_judged}
use Rattle.mgs_model.specs.Turns.{Turn, Do}
use Rattle.mgs_model.specs.Events.{Doing, Event, Byte, act_effects, begun, is_open, is_used_up, most_turns, path, step, turn_in, with_state}
use Rattle.mgs_model.specs.declared.entry.Decision.{Decision}
use Rattle.mgs_model.specs.declared.entry.Decision.TheVariants.{Granted}
use Rattle.mgs_model.specs.declared.echo_text.Message.{Message}
use Rattle.mgs_model.specs.declared.echo_text.Message.TheVariants.{Denied}

-- an effect; or a right was denied at the buffer of a name
pub data Report : Type 0 where
  Did : (effect : Effect) → Report
  Refused : (buffer : List ℕ) → (decision : Decision) → Report

-- DENIALS: the first request of an act that is not granted

abbrev pub refused_first : List ℕ → Decision → List Report → List Report
refused_first buffer Granted rest = rest
refused_first buffer denied rest = Refused buffer denied ∷ []

abbrev pub refusals : View → List Request → List Report
refusals v [] = []
refusals v (r ∷ rs) = refused_first r.buffer (request_judged v r) (refusals v rs)

abbrev pub refusals_in : Option View → Act → List Report
refusals_in None c = []
refusals_in (Some v) c = refusals v (needs v c)

-- of an act of a session
abbrev pub act_refusals : World → ℕ → Act → List Report
act_refusals w id c = refusals_in (view_of w id) c

-- what an echo line says of it
abbrev pub decision_said : Message → Decision
decision_said (Denied d) = d
decision_said _ = Granted

-- REPORTS, as an event has its effects

abbrev pub act_reports : World → ℕ → Act → Bool → List Report
act_reports w id c stored = map Did (act_effects w id c stored) ++ act_refusals w id c

-- an act that is refused for want of memory reports nothing
abbrev pub turn_reports : ℕ → Bool → Turn → World → Option ℕ → List Report
turn_reports id stored (Do state c) w memory = cond (is_used_up memory) [] (act_reports (with_state id (λ old. state) w) id c stored)
turn_reports id stored _ w memory = []

unfoldable pub turns_reports : ℕ → ℕ → Bool → Doing → List Report
turns_reports n id stored d = flat_map (λ e. turn_reports id stored (turn_in e.world id) e.world e.memory) (path n id stored d)

abbrev pub event_reports : World → Event → List Report
event_reports w (Byte id byte stored stop) = cond (is_open id w) (turns_reports most_turns id stored (begun w id byte stop)) []
event_reports w _ = []

abbrev pub run_reports : World → List Event → List Report
run_reports w [] = []
run_reports w (e ∷ es) = event_reports w e ++ run_reports (step w e) es

-- the effects among them
abbrev pub effects_in : List Report → List Effect
effects_in [] = []
effects_in (Did e ∷ rs) = e ∷ effects_in rs
effects_in (Refused buffer d ∷ rs) = effects_in rs
