-- One turn, in two worlds that are the same below an erasure and that the acting session sees alike.
use Rattle.std.proofs.Common.{◌≡◌, ℕ, zero, suc, List, [], map, refl, sym, ap, ◌∙◌, subst, Bool, true, false, cond, Option, Some, None}
use Rattle.std.specs.Option.{option_map}
use Rattle.mgs_model.specs.World.{World, Session, Search, State, has_id, find_session}
use Rattle.mgs_model.specs.View.{View, view, view_of, reads, search_seen}
use Rattle.mgs_model.specs.Outcome.{Act, Outcome, Effect, Quit}
use Rattle.mgs_model.specs.Acts.{outcome}
use Rattle.mgs_model.specs.Apply.{is_search_mode, apply, applied, outcome_in, act, after_quit, session_after, session_arranged, change_first}
use Rattle.mgs_model.specs.Turns.{Turn, Rest, Keep, Do}
use Rattle.mgs_model.specs.Events.{state_set, with_state, Doing, turn_seen, turn_in, refused_state, turn_done, turn, effect_in, act_effects, is_used_up, turn_effects}
use Rattle.mgs_laws.specs.Secrecy.{IsOf}
use Rattle.mgs_model.proofs.Firsts.{find-change_first}
use Rattle.mgs_laws.proofs.After.{user_after, find_after, find_without}

abbrev pub begun_view : (State → State) → View → View
begun_view f v = record v { session = record v.session { search = cond (is_search_mode (f v.session.state).mode) v.session.search None; state = f v.session.state } }

pub view_with_state : (w : World) (id : ℕ) (f : State → State) → view_of (with_state id f w) id ≡ option_map (begun_view f) (view_of w id)
view_with_state w id f =
    ap (option_map (view (with_state id f w))) (find-change_first (has_id id) (state_set f) (λ x. refl) w.sessions) ∙ by (find_session id w.sessions)
  where
    by : (o : Option Session) → option_map (view (with_state id f w)) (option_map (state_set f) o) ≡ option_map (begun_view f) (option_map (view w) o)
    by None = refl
    by (Some x) = λ i. Some (record (view w x) { session = record (view w x).session { search = sought (reads w.directory w.buffers x.user) (is_search_mode (f x.state).mode) x.search i; state = f x.state } })
      where
        sought : (can : List ℕ → Bool) (c : Bool) (s : Option Search) → search_seen can (cond c s None) ≡ cond c (search_seen can s) None
        sought can true s = refl
        sought can false s = refl

views_with_state : (w v : World) (id : ℕ) (f : State → State) → view_of w id ≡ view_of v id → view_of (with_state id f w) id ≡ view_of (with_state id f v) id
views_with_state w v id f q = view_with_state w id f ∙ ap (option_map (begun_view f)) q ∙ sym (view_with_state v id f)

-- what is done
pub effects_seen : (id : ℕ) (stored : Bool) (c : Act) (w v : World) → view_of w id ≡ view_of v id → act_effects w id c stored ≡ act_effects v id c stored
effects_seen id stored c w v q = ap (λ o. effect_in (option_map (λ z. outcome z c stored) o)) q

turn_effects_seen : (id : ℕ) (stored : Bool) (t : Turn) (w v : World) (memory : Option ℕ) → view_of w id ≡ view_of v id → turn_effects id stored t w memory ≡ turn_effects id stored t v memory
turn_effects_seen id stored Rest w v memory q = refl
turn_effects_seen id stored (Keep state) w v memory q = refl
turn_effects_seen id stored (Do state c) w v memory q = ap (cond (is_used_up memory) []) (effects_seen id stored c (with_state id (λ old. state) w) (with_state id (λ old. state) v) (views_with_state w v id (λ old. state) q))

-- what is done goes below the erasure
pub record Erasure (f : World → World) : Type 0 where
  pub applies : (w : World) (id : ℕ) (o : Outcome) → f (apply w id o) ≡ f (apply (f w) id o)
  pub keeps : (w : World) (id : ℕ) (g : State → State) → f (with_state id g w) ≡ f (with_state id g (f w))

-- two events half done
abbrev pub SameDoings : (World → World) → Doing → Doing → Type 0
SameDoings f d e = (f d.world ≡ f e.world) × (d.memory ≡ e.memory)

module _ (f : World → World) (h : Erasure f) where
  pub state_same : (w v : World) (id : ℕ) (g : State → State) → f w ≡ f v → f (with_state id g w) ≡ f (with_state id g v)
  state_same w v id g e = h.keeps w id g ∙ ap (λ x. f (with_state id g x)) e ∙ sym (h.keeps v id g)

  applied_same : (w v : World) (id : ℕ) (o : Option Outcome) → f w ≡ f v → f (applied w id o) ≡ f (applied v id o)
  applied_same w v id None e = e
  applied_same w v id (Some o) e = h.applies w id o ∙ ap (λ x. f (apply x id o)) e ∙ sym (h.applies v id o)

  pub act_same : (w v : World) (id : ℕ) (c : Act) (stored : Bool) → f w ≡ f v → view_of w id ≡ view_of v id → f (act w id c stored) ≡ f (act v id c stored)
  act_same w v id c stored e q = applied_same w v id (outcome_in w id c stored) e ∙ ap (λ o. f (applied v id (option_map (λ z. outcome z c stored) o))) q

  begun_act_same : (w v : World) (id : ℕ) (state : State) (c : Act) (stored : Bool) → f w ≡ f v → view_of w id ≡ view_of v id → f (act (with_state id (λ old. state) w) id c stored) ≡ f (act (with_state id (λ old. state) v) id c stored)
  begun_act_same w v id state c stored e q =
      act_same (with_state id (λ old. state) w) (with_state id (λ old. state) v) id c stored (state_same w v id (λ old. state) e) (views_with_state w v id (λ old. state) q)

  turn_done_same : (id : ℕ) (stored : Bool) (t : Turn) (w v : World) (memory : Option ℕ) → f w ≡ f v → view_of w id ≡ view_of v id → SameDoings f (turn_done id stored t w memory) (turn_done id stored t v memory)
  turn_done_same id stored Rest w v memory e q = (e, refl)
  turn_done_same id stored (Keep state) w v memory e q = (state_same w v id (λ old. state) e, refl)
  turn_done_same id stored (Do state c) w v None e q = (begun_act_same w v id state c stored e q, refl)
  turn_done_same id stored (Do state c) w v (Some zero) e q = (state_same w v id refused_state e, refl)
  turn_done_same id stored (Do state c) w v (Some (suc n)) e q = (begun_act_same w v id state c stored e q, refl)

  pub turn_same : (id : ℕ) (stored : Bool) (d e : Doing) → SameDoings f d e → view_of d.world id ≡ view_of e.world id → SameDoings f (turn id stored d) (turn id stored e)
  turn_same id stored d e p q =
      let same : SameDoings f (turn_done id stored (turn_in d.world id) d.world d.memory) (turn_done id stored (turn_in d.world id) e.world d.memory) = turn_done_same id stored (turn_in d.world id) d.world e.world d.memory p.0 q in
      (same.0 ∙ (λ i. f (turn_done id stored (turn_seen (q i)) e.world (p.1 i)).world), same.1 ∙ (λ i. (turn_done id stored (turn_seen (q i)) e.world (p.1 i)).memory))

pub effects_same : (id : ℕ) (stored : Bool) (d e : Doing) → d.memory ≡ e.memory → view_of d.world id ≡ view_of e.world id → turn_effects id stored (turn_in d.world id) d.world d.memory ≡ turn_effects id stored (turn_in e.world id) e.world e.memory
effects_same id stored d e p q =
    turn_effects_seen id stored (turn_in d.world id) d.world e.world d.memory q ∙ (λ i. turn_effects id stored (turn_seen (q i)) e.world (p i))

-- WHOSE THE SESSION IS: of the same user after a turn, or gone

pub of_with_state : (users : List ℕ → Bool) (id : ℕ) (f : State → State) (w : World) → IsOf users (find_session id w.sessions) → IsOf users (find_session id (with_state id f w).sessions)
of_with_state users id f w h =
    subst (IsOf users) (sym (find-change_first (has_id id) (state_set f) (λ x. refl) w.sessions)) (kept (find_session id w.sessions) h)
  where
    kept : (s : Option Session) → IsOf users s → IsOf users (option_map (state_set f) s)
    kept None h = h
    kept (Some x) h = h

of_quit : (users : List ℕ → Bool) (id : ℕ) (e : Effect) (xs : List Session) → IsOf users (find_session id xs) → IsOf users (find_session id (after_quit e id xs))
of_quit users id Quit xs h = subst (IsOf users) (sym (find_without id xs)) tt
of_quit users id _ xs h = h

of_arranged : (users : List ℕ → Bool) (o : Outcome) (s : Option Session) → IsOf users s → IsOf users (option_map (λ x. session_arranged o (session_after o.effect x)) s)
of_arranged users o None h = h
of_arranged users o (Some x) h = ap users (user_after o.effect x) ∙ h

of_applied : (users : List ℕ → Bool) (id : ℕ) (w : World) (o : Option Outcome) → IsOf users (find_session id w.sessions) → IsOf users (find_session id (applied w id o).sessions)
of_applied users id w None h = h
of_applied users id w (Some o) h =
    of_quit users id o.effect (change_first (has_id id) (session_arranged o) (map (session_after o.effect) w.sessions))
    (subst (IsOf users) (sym (find_after id o w.sessions)) (of_arranged users o (find_session id w.sessions) h))

pub of_turn : (users : List ℕ → Bool) (id : ℕ) (stored : Bool) (t : Turn) (w : World) (memory : Option ℕ) → IsOf users (find_session id w.sessions) → IsOf users (find_session id (turn_done id stored t w memory).world.sessions)
of_turn users id stored Rest w memory h = h
of_turn users id stored (Keep state) w memory h = of_with_state users id (λ old. state) w h
of_turn users id stored (Do state c) w None h = of_applied users id (with_state id (λ old. state) w) (outcome_in (with_state id (λ old. state) w) id c stored) (of_with_state users id (λ old. state) w h)
of_turn users id stored (Do state c) w (Some zero) h = of_with_state users id refused_state w h
of_turn users id stored (Do state c) w (Some (suc n)) h = of_applied users id (with_state id (λ old. state) w) (outcome_in (with_state id (λ old. state) w) id c stored) (of_with_state users id (λ old. state) w h)
