-- An event of a byte, by the turns that it has: what they lead to, and where they end.
use Rattle.std.proofs.Common.{◌≡◌, ℕ, ◌≤◌, ◌<◌, Bool, true, cond, List, [], Option, Some, None, ap, ◌∙◌, subst}
use Rattle.std.specs.Prelude.{is_some}
use Rattle.std.specs.List.{flat_map}
use Rattle.std.specs.Option.{option_map}
use Rattle.mgs_model.specs.World.{World, Session, State, find_session}
use Rattle.mgs_model.specs.View.{view}
use Rattle.mgs_model.specs.Outcome.{Act}
use Rattle.mgs_model.specs.Apply.{act, outcome_in}
use Rattle.mgs_model.specs.Turns.{Do, next, todo_turn}
use Rattle.mgs_model.specs.Events.{Byte, Doing, Saved, begun, begun_state, byte_done, event_saves, most_turns, refused_state, rests, saved_by, settled, step, turn_in, turn_seen, turns_effects, with_state}
use Rattle.mgs_laws.specs.Refusals.{refused_act}
use Rattle.mgs_laws.proofs.Led.{Leads, LeadsOnce, leads_once, led_refused, led_saves, led_short, led_short_saves, led_world, memory_behind}
use Rattle.mgs_laws.proofs.Plays.{act_alike, act_saves_nothing}

-- WHAT COMES NEXT, by what the session has still to do
pub turn_todo : (w : World) (id : ℕ) (x : Session) → find_session id w.sessions ≡ Some x → turn_in w id ≡ todo_turn (view w x) x.state x.state.todo
unfolding next
turn_todo w id x found = ap (λ (o : Option Session). turn_seen (option_map (view w) o)) found

-- AN ACT OF A BYTE THAT IS PLAYED saves nothing, and is the same for any answer of the store
pub leads_played : (id : ℕ) (s t : Bool) (w v : World) (state : State) (c : Act) (x : Session) → find_session id w.sessions ≡ Some x → state.playing ≡ true → turn_in w id ≡ Do state c → v ≡ act (with_state id (λ old. state) w) id c s → LeadsOnce id t [] w v
leads_played id s t w v state c x found playing is does =
    subst (λ (saved : List Saved). LeadsOnce id t saved w v) (act_saves_nothing w id state x found playing c t)
    (leads_once id t w v state c is (does ∙ act_alike w id state x found playing c s t))

-- A BYTE OF AN OPEN SESSION
module _ (w u : World) (id byte : ℕ) (stored : Bool) (used : ℕ) (saved : List Saved) (here : is_some (find_session id w.sessions) ≡ true) (l : Leads id stored used saved (with_state id (begun_state byte) w) u) where
  -- nothing more is to be done
  pub step_done : used ≤ most_turns → rests (turn_in u id) ≡ true → step w (Byte id byte stored None) ≡ settled u
  step_done within stops =
      ap (λ (b : Bool). cond b (settled (byte_done w id byte stored None)) w) here
      ∙ ap (λ (d : Doing). settled d.world) (led_world id stored used saved (with_state id (begun_state byte) w) u l within stops)

  pub saves_done : used ≤ most_turns → rests (turn_in u id) ≡ true → event_saves w (Byte id byte stored None) ≡ saved
  saves_done within stops =
      ap (λ (b : Bool). flat_map saved_by (cond b (turns_effects most_turns id stored (begun w id byte None)) [])) here
      ∙ led_saves id stored used saved (with_state id (begun_state byte) w) u l within stops

  -- memory is refused to the next act
  module _ (within : used < most_turns) (state : State) (c : Act) (x : Session) (found : find_session id u.sessions ≡ Some x) (is : turn_in u id ≡ Do state c) where
    pub step_short : step w (Byte id byte stored (memory_behind l.acts (Some 0))) ≡ settled (with_state id refused_state u)
    step_short =
        ap (λ (b : Bool). cond b (settled (byte_done w id byte stored (memory_behind l.acts (Some 0)))) w) here
        ∙ ap (λ (d : Doing). settled d.world) (led_short id stored used saved (with_state id (begun_state byte) w) u l within state c x found is)

    pub saves_short : event_saves w (Byte id byte stored (memory_behind l.acts (Some 0))) ≡ saved
    saves_short =
        ap (λ (b : Bool). flat_map saved_by (cond b (turns_effects most_turns id stored (begun w id byte (memory_behind l.acts (Some 0)))) [])) here
        ∙ led_short_saves id stored used saved (with_state id (begun_state byte) w) u l within state c x found is

    pub act_short : refused_act w id byte stored (memory_behind l.acts (Some 0)) ≡ outcome_in (with_state id (λ old. state) u) id c stored
    act_short = led_refused id stored used saved (with_state id (begun_state byte) w) u l within state c x found is
