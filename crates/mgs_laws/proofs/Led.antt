-- Turn after turn of one event: from one world to another, whatever is left to do then.
use Rattle.std.proofs.Common.{◌≡◌, ℕ, zero, suc, ◌+◌, ◌≤◌, ◌<◌, List, [], ◌++◌, refl, sym, ap, ◌∙◌, Bool, true, false, cond, Option, Some, None, arith, append-nil, append_assoc}
use Rattle.std.specs.Prelude.{◌-◌}
use Rattle.std.specs.List.{flat_map}
use Rattle.std.proofs.lemmas.Grind.{flat_map-append}
use Rattle.mgs_model.specs.World.{World, Session, State, find_session}
use Rattle.mgs_model.specs.Outcome.{Act, Effect}
use Rattle.mgs_model.specs.Apply.{act, outcome_in}
use Rattle.mgs_model.specs.Turns.{Turn, Keep, Do}
use Rattle.mgs_model.specs.Events.{Doing, with_state, turn_in, rests, turn, turn_done, turns, most_turns, refused_state, act_effects, turn_effects, turns_effects, is_used_up, Saved, saved_by}
use Rattle.mgs_model.proofs.Paths.{effects_next, effects_rest, turns_next, turns_rest}
use Rattle.mgs_laws.specs.Refusals.{refused_in}
use Rattle.mgs_laws.proofs.LeftToDo.{rests_with_state}
use Rattle.mgs_laws.proofs.Paths.{refused_next, refused_of}

-- ONE TURN

one_turn : (n id : ℕ) (stored : Bool) (d : Doing) → 1 ≤ n → rests (turn_in d.world id) ≡ false → rests (turn_in (turn id stored d).world id) ≡ true → turns n id stored d ≡ turn id stored d
one_turn zero id stored d h e f = absurd (omega (arith, h))
one_turn (suc n) id stored d h e f = turns_next n id stored d e ∙ turns_rest n id stored (turn id stored d) f

one_effects : (n id : ℕ) (stored : Bool) (d : Doing) → 1 ≤ n → rests (turn_in d.world id) ≡ false → rests (turn_in (turn id stored d).world id) ≡ true → turns_effects n id stored d ≡ turn_effects id stored (turn_in d.world id) d.world d.memory
one_effects zero id stored d h e f = absurd (omega (arith, h))
one_effects (suc n) id stored d h e f =
    effects_next n id stored d e
    ∙ ap (λ es. turn_effects id stored (turn_in d.world id) d.world d.memory ++ es) (effects_rest n id stored (turn id stored d) f)
    ∙ append-nil (turn_effects id stored (turn_in d.world id) d.world d.memory)

-- MEMORY for so many acts more
abbrev pub memory_behind : ℕ → Option ℕ → Option ℕ
memory_behind n None = None
memory_behind n (Some m) = Some (n + m)

behind_none : (m : Option ℕ) → memory_behind 0 m ≡ m
behind_none None = refl
behind_none (Some m) = let e : 0 + m ≡ m = omega arith in ap (λ (n : ℕ). Some n) e

behind_more : (a b : ℕ) (m : Option ℕ) → memory_behind (a + b) m ≡ memory_behind a (memory_behind b m)
behind_more a b None = refl
behind_more a b (Some m) = let e : a + b + m ≡ a + (b + m) = omega arith in ap (λ (n : ℕ). Some n) e

one_is_there : (m : Option ℕ) → is_used_up (memory_behind 1 m) ≡ false
one_is_there None = refl
one_is_there (Some m) = let e : 1 + m ≡ suc m = omega arith in ap (λ (n : ℕ). is_used_up (Some n)) e

-- FROM A WORLD TO ANOTHER by so many turns of a session none of which is refused, where the store answers so, which save this
abbrev pub doing : World → Option ℕ → Doing
doing w memory = record { world = w; memory = memory }

pub record Leads (id : ℕ) (stored : Bool) (used : ℕ) (saved : List Saved) (v w : World) : Type 0 where
  pub acts : ℕ
  pub world : (n : ℕ) (m : Option ℕ) → turns (used + n) id stored (doing v (memory_behind acts m)) ≡ turns n id stored (doing w m)
  pub saves : (n : ℕ) (m : Option ℕ) → flat_map saved_by (turns_effects (used + n) id stored (doing v (memory_behind acts m))) ≡ saved ++ flat_map saved_by (turns_effects n id stored (doing w m))
  pub refused : (n : ℕ) (m : Option ℕ) → refused_in (used + n) id stored (doing v (memory_behind acts m)) ≡ refused_in n id stored (doing w m)

-- by one act
abbrev pub LeadsOnce : (id : ℕ) → Bool → List Saved → World → World → Type 0
LeadsOnce id stored saved v w = (l : Leads id stored 1 saved v w) × (l.acts ≡ 1)

none_more : (n : ℕ) → 0 + n ≡ n
none_more n = omega arith

one_more : (n : ℕ) → 1 + n ≡ suc n
one_more n = omega arith

pub leads_nowhere : (id : ℕ) (stored : Bool) (w : World) → Leads id stored 0 [] w w
leads_nowhere id stored w = record {
  acts = 0;
  world = λ n m. ap (λ (k : ℕ). turns k id stored (doing w (memory_behind 0 m))) (none_more n) ∙ ap (λ (k : Option ℕ). turns n id stored (doing w k)) (behind_none m);
  saves = λ n m. ap (λ (k : ℕ). flat_map saved_by (turns_effects k id stored (doing w (memory_behind 0 m)))) (none_more n) ∙ ap (λ (k : Option ℕ). flat_map saved_by (turns_effects n id stored (doing w k))) (behind_none m);
  refused = λ n m. ap (λ (k : ℕ). refused_in k id stored (doing w (memory_behind 0 m))) (none_more n) ∙ ap (λ (k : Option ℕ). refused_in n id stored (doing w k)) (behind_none m);
}

-- a turn that changes the session's state alone
pub leads_kept : (id : ℕ) (stored : Bool) (w v : World) (state : State) → turn_in w id ≡ Keep state → v ≡ with_state id (λ old. state) w → Leads id stored 1 [] w v
leads_kept id stored w v state is does =
    let u : World = with_state id (λ old. state) w in
    record {
      acts = 0;
      world = λ n m.
          ap (λ (k : ℕ). turns k id stored (doing w (memory_behind 0 m))) (one_more n)
          ∙ turns_next n id stored (doing w (memory_behind 0 m)) (ap rests is)
          ∙ ap (λ (t : Turn). turns n id stored (turn_done id stored t w (memory_behind 0 m))) is
          ∙ ap (λ (k : Option ℕ). turns n id stored (doing u k)) (behind_none m)
          ∙ ap (λ (z : World). turns n id stored (doing z m)) (sym does);
      saves = λ n m.
          ap (λ (k : ℕ). flat_map saved_by (turns_effects k id stored (doing w (memory_behind 0 m)))) (one_more n)
          ∙ ap (flat_map saved_by) (effects_next n id stored (doing w (memory_behind 0 m)) (ap rests is))
          ∙ ap (λ (t : Turn). flat_map saved_by (turn_effects id stored t w (memory_behind 0 m) ++ turns_effects n id stored (turn_done id stored t w (memory_behind 0 m)))) is
          ∙ ap (λ (k : Option ℕ). flat_map saved_by (turns_effects n id stored (doing u k))) (behind_none m)
          ∙ ap (λ (z : World). flat_map saved_by (turns_effects n id stored (doing z m))) (sym does);
      refused = λ n m.
          ap (λ (k : ℕ). refused_in k id stored (doing w (memory_behind 0 m))) (one_more n)
          ∙ refused_next n id stored (doing w (memory_behind 0 m)) (ap rests is)
          ∙ ap (λ (t : Turn). refused_of id stored t w (memory_behind 0 m) (refused_in n id stored (turn_done id stored t w (memory_behind 0 m)))) is
          ∙ ap (λ (k : Option ℕ). refused_in n id stored (doing u k)) (behind_none m)
          ∙ ap (λ (z : World). refused_in n id stored (doing z m)) (sym does);
    }

-- an act for which there is memory
module _ (id : ℕ) (stored : Bool) (w v : World) (state : State) (c : Act) (is : turn_in w id ≡ Do state c) (does : v ≡ act (with_state id (λ old. state) w) id c stored) where
  acted_turn : (m : Option ℕ) → turn_done id stored (Do state c) w (memory_behind 1 m) ≡ doing v m
  acted_turn None = ap (λ (u : World). doing u None) (sym does)
  acted_turn (Some m) = ap (λ (n : ℕ). turn_done id stored (Do state c) w (Some n)) (one_more m) ∙ ap (λ (u : World). doing u (Some m)) (sym does)

  acted_effects : (m : Option ℕ) → turn_effects id stored (Do state c) w (memory_behind 1 m) ≡ act_effects (with_state id (λ old. state) w) id c stored
  acted_effects m = ap (λ (b : Bool). cond b [] (act_effects (with_state id (λ old. state) w) id c stored)) (one_is_there m)

  pub leads_acted : Leads id stored 1 (flat_map saved_by (act_effects (with_state id (λ old. state) w) id c stored)) w v
  leads_acted = record {
    acts = 1;
    world = λ n m.
        ap (λ (k : ℕ). turns k id stored (doing w (memory_behind 1 m))) (one_more n)
        ∙ turns_next n id stored (doing w (memory_behind 1 m)) (ap rests is)
        ∙ ap (λ (t : Turn). turns n id stored (turn_done id stored t w (memory_behind 1 m))) is
        ∙ ap (turns n id stored) (acted_turn m);
    saves = λ n m.
        ap (λ (k : ℕ). flat_map saved_by (turns_effects k id stored (doing w (memory_behind 1 m)))) (one_more n)
        ∙ ap (flat_map saved_by) (effects_next n id stored (doing w (memory_behind 1 m)) (ap rests is))
        ∙ ap (λ (t : Turn). flat_map saved_by (turn_effects id stored t w (memory_behind 1 m) ++ turns_effects n id stored (turn_done id stored t w (memory_behind 1 m)))) is
        ∙ flat_map-append saved_by (turn_effects id stored (Do state c) w (memory_behind 1 m)) (turns_effects n id stored (turn_done id stored (Do state c) w (memory_behind 1 m)))
        ∙ ap (λ (es : List Effect). flat_map saved_by es ++ flat_map saved_by (turns_effects n id stored (turn_done id stored (Do state c) w (memory_behind 1 m)))) (acted_effects m)
        ∙ ap (λ (d : Doing). flat_map saved_by (act_effects (with_state id (λ old. state) w) id c stored) ++ flat_map saved_by (turns_effects n id stored d)) (acted_turn m);
    refused = λ n m.
        ap (λ (k : ℕ). refused_in k id stored (doing w (memory_behind 1 m))) (one_more n)
        ∙ refused_next n id stored (doing w (memory_behind 1 m)) (ap rests is)
        ∙ ap (λ (t : Turn). refused_of id stored t w (memory_behind 1 m) (refused_in n id stored (turn_done id stored t w (memory_behind 1 m)))) is
        ∙ ap (λ (b : Bool). cond b (outcome_in (with_state id (λ old. state) w) id c stored) (refused_in n id stored (turn_done id stored (Do state c) w (memory_behind 1 m)))) (one_is_there m)
        ∙ ap (refused_in n id stored) (acted_turn m);
  }

  pub leads_once : LeadsOnce id stored (flat_map saved_by (act_effects (with_state id (λ old. state) w) id c stored)) w v
  unfolding leads_acted
  leads_once = (leads_acted, refl)

-- one after the other
module _ (id : ℕ) (stored : Bool) (first second : ℕ) (earlier later : List Saved) (u v w : World) (a : Leads id stored first earlier u v) (b : Leads id stored second later v w) where
  sum : (n : ℕ) → first + second + n ≡ first + (second + n)
  sum n = omega arith

  pub leads_on : Leads id stored (first + second) (earlier ++ later) u w
  leads_on =
      record {
        acts = a.acts + b.acts;
        world = λ n m.
            ap (λ (k : ℕ). turns k id stored (doing u (memory_behind (a.acts + b.acts) m))) (sum n)
            ∙ ap (λ (k : Option ℕ). turns (first + (second + n)) id stored (doing u k)) (behind_more a.acts b.acts m)
            ∙ a.world (second + n) (memory_behind b.acts m)
            ∙ b.world n m;
        saves = λ n m.
            ap (λ (k : ℕ). flat_map saved_by (turns_effects k id stored (doing u (memory_behind (a.acts + b.acts) m)))) (sum n)
            ∙ ap (λ (k : Option ℕ). flat_map saved_by (turns_effects (first + (second + n)) id stored (doing u k))) (behind_more a.acts b.acts m)
            ∙ a.saves (second + n) (memory_behind b.acts m)
            ∙ ap (λ (xs : List Saved). earlier ++ xs) (b.saves n m)
            ∙ sym (append_assoc earlier later (flat_map saved_by (turns_effects n id stored (doing w m))));
        refused = λ n m.
            ap (λ (k : ℕ). refused_in k id stored (doing u (memory_behind (a.acts + b.acts) m))) (sum n)
            ∙ ap (λ (k : Option ℕ). refused_in (first + (second + n)) id stored (doing u k)) (behind_more a.acts b.acts m)
            ∙ a.refused (second + n) (memory_behind b.acts m)
            ∙ b.refused n m;
      }

  pub acts_on : leads_on.acts ≡ a.acts + b.acts
  unfolding leads_on
  acts_on = refl

all_of : (a b : ℕ) → a ≤ b → b ≡ a + (b - a)
all_of a b h = omega (arith, h)

some_of : (a b : ℕ) → a < b → 1 ≤ b - a
some_of a b h = omega (arith, h)

at_most : (a b : ℕ) → a < b → a ≤ b
at_most a b h = omega (arith, h)

-- WHERE IT ENDS: nothing is left to do
module _ (id : ℕ) (stored : Bool) (used : ℕ) (saved : List Saved) (v w : World) (l : Leads id stored used saved v w) (within : used ≤ most_turns) (stops : rests (turn_in w id) ≡ true) where
  pub led_world : turns most_turns id stored (doing v None) ≡ doing w None
  led_world = ap (λ (n : ℕ). turns n id stored (doing v None)) (all_of used most_turns within) ∙ l.world (most_turns - used) None ∙ turns_rest (most_turns - used) id stored (doing w None) stops

  pub led_saves : flat_map saved_by (turns_effects most_turns id stored (doing v None)) ≡ saved
  led_saves =
      ap (λ (n : ℕ). flat_map saved_by (turns_effects n id stored (doing v None))) (all_of used most_turns within)
      ∙ l.saves (most_turns - used) None
      ∙ ap (λ (es : List Effect). saved ++ flat_map saved_by es) (effects_rest (most_turns - used) id stored (doing w None) stops)
      ∙ append-nil saved

-- or memory is refused to an act
module _ (id : ℕ) (stored : Bool) (used : ℕ) (saved : List Saved) (v w : World) (l : Leads id stored used saved v w) (within : used < most_turns) (state : State) (c : Act) (x : Session) (found : find_session id w.sessions ≡ Some x) (is : turn_in w id ≡ Do state c) where
  told : turn id stored (doing w (Some 0)) ≡ doing (with_state id refused_state w) (Some 0)
  told = ap (λ (t : Turn). turn_done id stored t w (Some 0)) is

  told_rests : rests (turn_in (turn id stored (doing w (Some 0))).world id) ≡ true
  told_rests = ap (λ (d : Doing). rests (turn_in d.world id)) told ∙ rests_with_state w id refused_state x found refl

  pub led_short : turns most_turns id stored (doing v (memory_behind l.acts (Some 0))) ≡ doing (with_state id refused_state w) (Some 0)
  led_short =
      ap (λ (n : ℕ). turns n id stored (doing v (memory_behind l.acts (Some 0)))) (all_of used most_turns (at_most used most_turns within))
      ∙ l.world (most_turns - used) (Some 0)
      ∙ one_turn (most_turns - used) id stored (doing w (Some 0)) (some_of used most_turns within) (ap rests is) told_rests
      ∙ told

  pub led_short_saves : flat_map saved_by (turns_effects most_turns id stored (doing v (memory_behind l.acts (Some 0)))) ≡ saved
  led_short_saves =
      ap (λ (n : ℕ). flat_map saved_by (turns_effects n id stored (doing v (memory_behind l.acts (Some 0))))) (all_of used most_turns (at_most used most_turns within))
      ∙ l.saves (most_turns - used) (Some 0)
      ∙ ap (λ (es : List Effect). saved ++ flat_map saved_by es) (one_effects (most_turns - used) id stored (doing w (Some 0)) (some_of used most_turns within) (ap rests is) told_rests)
      ∙ ap (λ (t : Turn). saved ++ flat_map saved_by (turn_effects id stored t w (Some 0))) is
      ∙ append-nil saved

  first_refused : (n : ℕ) → 1 ≤ n → refused_in n id stored (doing w (Some 0)) ≡ outcome_in (with_state id (λ old. state) w) id c stored
  first_refused zero h = absurd (omega (arith, h))
  first_refused (suc n) h =
      refused_next n id stored (doing w (Some 0)) (ap rests is)
      ∙ ap (λ (t : Turn). refused_of id stored t w (Some 0) (refused_in n id stored (turn id stored (doing w (Some 0))))) is

  pub led_refused : refused_in most_turns id stored (doing v (memory_behind l.acts (Some 0))) ≡ outcome_in (with_state id (λ old. state) w) id c stored
  led_refused =
      ap (λ (n : ℕ). refused_in n id stored (doing v (memory_behind l.acts (Some 0)))) (all_of used most_turns (at_most used most_turns within))
      ∙ l.refused (most_turns - used) (Some 0)
      ∙ first_refused (most_turns - used) (some_of used most_turns within)
