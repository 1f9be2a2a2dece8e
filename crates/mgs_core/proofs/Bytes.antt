-- An event of a byte, by the turns that it has: what they lead to, and where they end.
use Rattle.std.proofs.Common.{◌≡◌, ℕ, ◌≤◌, ◌<◌, Bool, true, cond, List, [], Some, None, ap, ◌∙◌}
use Rattle.std.specs.Prelude.{is_some}
use Rattle.mgs_model.specs.World.{World, Session, State, find_session}
use Rattle.mgs_model.specs.Outcome.{Act}
use Rattle.mgs_model.specs.Apply.{outcome_in}
use Rattle.mgs_model.specs.Turns.{Do}
use Rattle.mgs_model.specs.Events.{Byte, Doing, begun, begun_state, byte_done, most_turns, refused_state, rests, settled, step, turn_in, with_state}
use Rattle.mgs_births.specs.Reports.{Report, event_reports, turns_reports}
use Rattle.mgs_laws.specs.Refusals.{refused_act}
use Rattle.mgs_core.proofs.Led.{Leads, led_reports, led_refused, led_short, led_short_reports, led_world, memory_behind}

-- A BYTE OF AN OPEN SESSION
module _ (w u : World) (id byte : ℕ) (stored : Bool) (used : ℕ) (done : List Report) (here : is_some (find_session id w.sessions) ≡ true) (l : Leads id stored used done (with_state id (begun_state byte) w) u) where
  -- nothing more is to be done
  pub step_done : used ≤ most_turns → rests (turn_in u id) ≡ true → step w (Byte id byte stored None) ≡ settled u
  step_done within stops =
      ap (λ (b : Bool). cond b (settled (byte_done w id byte stored None)) w) here
      ∙ ap (λ (d : Doing). settled d.world) (led_world id stored used done (with_state id (begun_state byte) w) u l within stops)

  pub reports_done : used ≤ most_turns → rests (turn_in u id) ≡ true → event_reports w (Byte id byte stored None) ≡ done
  reports_done within stops =
      ap (λ (b : Bool). (cond b (turns_reports most_turns id stored (begun w id byte None)) [])) here
      ∙ led_reports id stored used done (with_state id (begun_state byte) w) u l within stops

  -- memory is refused to the next act
  module _ (within : used < most_turns) (state : State) (c : Act) (x : Session) (found : find_session id u.sessions ≡ Some x) (is : turn_in u id ≡ Do state c) where
    pub step_short : step w (Byte id byte stored (memory_behind l.acts (Some 0))) ≡ settled (with_state id refused_state u)
    step_short =
        ap (λ (b : Bool). cond b (settled (byte_done w id byte stored (memory_behind l.acts (Some 0)))) w) here
        ∙ ap (λ (d : Doing). settled d.world) (led_short id stored used done (with_state id (begun_state byte) w) u l within state c x found is)

    pub reports_short : event_reports w (Byte id byte stored (memory_behind l.acts (Some 0))) ≡ done
    reports_short =
        ap (λ (b : Bool). (cond b (turns_reports most_turns id stored (begun w id byte (memory_behind l.acts (Some 0)))) [])) here
        ∙ led_short_reports id stored used done (with_state id (begun_state byte) w) u l within state c x found is

    pub act_short : refused_act w id byte stored (memory_behind l.acts (Some 0)) ≡ outcome_in (with_state id (λ old. state) u) id c stored
    act_short = led_refused id stored used done (with_state id (begun_state byte) w) u l within state c x found is
