-- Which sessions an event leaves open, told by the worlds before and after it and by no command.
use Rattle.std.proofs.Common.{◌≡◌, ℕ, zero, suc, ◌==◌, nat_eq, Bool, true, false, cond, List, [], ◌∷◌, map, Option, Some, None, refl, sym, ap, ◌∙◌}
use Rattle.std.specs.Prelude.{find, is_some}
use Rattle.std.specs.Option.{option_or}
use Rattle.std.proofs.lemmas.List.Folds.{find-append}
use Rattle.mgs_model.proofs.Firsts.{find-map}
use Rattle.mgs_model.proofs.Blind.{change_inside, map_inside, is_some_map}
use Rattle.mgs_laws.proofs.After.{find_without, id_after}
use Rattle.mgs_model.specs.World.{World, Session, State, has_id, find_session}
use Rattle.mgs_model.specs.Outcome.{Act, Outcome, Effect, No_effect, Edit, Unmodified, SetList, SetOwners, Create, Kill, Save, Quit}
use Rattle.mgs_model.specs.Apply.{act, applied, change_first, outcome_in, session_after, session_arranged, without_session, after_quit, apply}
use Rattle.mgs_model.specs.Turns.{Turn, Rest, Keep, Do}
use Rattle.mgs_model.specs.Events.{Doing, act_done, state_set, turn_in, refused_state, with_state, turn_done, turn, turns, most_turns, begun, byte_done, settled, session_settled, new_session, opened, is_open, can_open, step}
use Rattle.mgs_model.specs.Events as events
use Rattle.mgs_laws.proofs.Holder.{find_others}
use Rattle.mgs_model.proofs.Paths.{all_turns}

-- the other sessions stay
pub record Beside (id : ℕ) (w v : World) : Type 0 where
  pub others : (other : ℕ) → nat_eq id other ≡ false → is_open other v ≡ is_open other w

pub beside_same : (id : ℕ) (w : World) → Beside id w w
beside_same id w = record { others = λ other e. refl }

beside_then : (id : ℕ) (u v w : World) → Beside id u v → Beside id v w → Beside id u w
beside_then id u v w a b = record { others = λ other e. b.others other e ∙ a.others other e }

-- SESSIONS BY THEIR IDS

pub is_found : (o : Option Session) → is_some o ≡ true → (x : Session) × (o ≡ Some x)
is_found None h = absurd cc
is_found (Some x) h = (x, refl)

abbrev session_id : Session → ℕ
session_id x = x.id

open_by_ids : (id : ℕ) (xs : List Session) → is_some (find_session id xs) ≡ is_some (find (λ n. n == id) (map session_id xs))
open_by_ids id xs = sym (is_some_map session_id (find_session id xs)) ∙ sym (ap is_some (find-map session_id (has_id id) (λ n. n == id) (λ x. refl) xs))

-- where the ids stay the same sessions are open
open_same : (id : ℕ) (xs ys : List Session) → map session_id ys ≡ map session_id xs → is_some (find_session id ys) ≡ is_some (find_session id xs)
open_same id xs ys e = open_by_ids id ys ∙ ap (λ (ns : List ℕ). is_some (find (λ n. n == id) ns)) e ∙ sym (open_by_ids id xs)

ids_state : (id : ℕ) (f : State → State) (xs : List Session) → map session_id (change_first (has_id id) (state_set f) xs) ≡ map session_id xs
ids_state id f xs = change_inside session_id (has_id id) (state_set f) xs (λ x e. refl)

pub open_state : (other id : ℕ) (f : State → State) (w : World) → is_open other (with_state id f w) ≡ is_open other w
open_state other id f w = open_same other w.sessions (with_state id f w).sessions (ids_state id f w.sessions)

pub open_settled : (id : ℕ) (w : World) → is_open id (settled w) ≡ is_open id w
open_settled id w = open_same id w.sessions (settled w).sessions (map_inside session_id (session_settled w.directory w.buffers) (λ x. refl) w.sessions)

beside_state : (id : ℕ) (f : State → State) (w : World) → Beside id w (with_state id f w)
beside_state id f w = record { others = λ other e. open_state other id f w }

beside_settled : (id : ℕ) (w : World) → Beside id w (settled w)
beside_settled id w = record { others = λ other e. open_settled other w }

-- A SESSION IS TAKEN OUT

open_past : (id other : ℕ) (xs : List Session) → nat_eq id other ≡ false → is_some (find_session other (without_session id xs)) ≡ is_some (find_session other xs)
open_past id other xs e = ap is_some (find_others id other e xs)

open_quit : (id other : ℕ) (e : Effect) (xs : List Session) → nat_eq id other ≡ false → is_some (find_session other (after_quit e id xs)) ≡ is_some (find_session other xs)
open_quit id other Quit xs h = open_past id other xs h
open_quit id other No_effect xs h = refl
open_quit id other (Edit name a b put) xs h = refl
open_quit id other (Unmodified name) xs h = refl
open_quit id other (SetList name entries) xs h = refl
open_quit id other (SetOwners name owner) xs h = refl
open_quit id other (Create name owner) xs h = refl
open_quit id other (Kill name) xs h = refl
open_quit id other (Save name text) xs h = refl

-- AN ACT

ids_acted : (id : ℕ) (o : Outcome) (xs : List Session) → map session_id (change_first (has_id id) (session_arranged o) (map (session_after o.effect) xs)) ≡ map session_id xs
ids_acted id o xs =
    change_inside session_id (has_id id) (session_arranged o) (map (session_after o.effect) xs) (λ x e. refl)
    ∙ map_inside session_id (session_after o.effect) (id_after o.effect) xs

beside_apply : (id : ℕ) (o : Outcome) (w : World) → Beside id w (apply w id o)
beside_apply id o w =
    let acted : List Session = change_first (has_id id) (session_arranged o) (map (session_after o.effect) w.sessions) in
    record {
      others = λ other e. open_quit id other o.effect acted e ∙ open_same other w.sessions acted (ids_acted id o w.sessions);
    }

beside_act : (id : ℕ) (stored : Bool) (state : State) (c : Act) (w : World) → Beside id w (act (with_state id (λ old. state) w) id c stored)
beside_act id stored state c w = beside_then id w v (act v id c stored) (beside_state id (λ old. state) w) (go (outcome_in v id c stored))
  where
    v : World
    v = with_state id (λ old. state) w

    go : (o : Option Outcome) → Beside id v (applied v id o)
    go None = beside_same id v
    go (Some o) = beside_apply id o v

beside_done : (id : ℕ) (stored : Bool) (state : State) (c : Act) (w : World) (memory : Option ℕ) → Beside id w (act_done id stored state c w memory).world
beside_done id stored state c w None = beside_act id stored state c w
beside_done id stored state c w (Some zero) = beside_state id refused_state w
beside_done id stored state c w (Some (suc n)) = beside_act id stored state c w

beside_turn : (id : ℕ) (stored : Bool) (t : Turn) (w : World) (memory : Option ℕ) → Beside id w (turn_done id stored t w memory).world
beside_turn id stored Rest w memory = beside_same id w
beside_turn id stored (Keep state) w memory = beside_state id (λ old. state) w
beside_turn id stored (Do state c) w memory = beside_done id stored state c w memory

-- ALL TURNS OF A BYTE

beside_turns : (n id : ℕ) (stored : Bool) (d : Doing) → Beside id d.world (turns n id stored d).world
beside_turns n id stored d =
    all_turns (λ (e : Doing). Beside id d.world e.world) id stored
    (λ e h. beside_then id d.world e.world (turn id stored e).world h (beside_turn id stored (turn_in e.world id) e.world e.memory)) n d (beside_same id d.world)

pub beside_byte : (id byte : ℕ) (stored : Bool) (stop : Option ℕ) (w : World) → Beside id w (step w (events.Byte id byte stored stop))
beside_byte id byte stored stop w = go (is_open id w)
  where
    go : (b : Bool) → Beside id w (cond b (settled (byte_done w id byte stored stop)) w)
    go false = beside_same id w
    go true =
        let begins : World = (begun w id byte stop).world in
        let ends : World = byte_done w id byte stored stop in
        beside_then id w ends (settled ends)
        (beside_then id w begins ends (beside_state id _ w) (beside_turns most_turns id stored (begun w id byte stop)))
        (beside_settled id ends)

pub beside_close : (id : ℕ) (w : World) → Beside id w (step w (events.Close id))
beside_close id w = go (is_open id w)
  where
    go : (b : Bool) → Beside id w (cond b (settled (record w { sessions = without_session id w.sessions })) w)
    go false = beside_same id w
    go true =
        let ends : World = record w { sessions = without_session id w.sessions } in
        beside_then id w ends (settled ends) (record { others = λ other e. open_past id other w.sessions e }) (beside_settled id ends)

-- no session of that id is open then
pub closed_none : (id : ℕ) (w : World) → is_open id (step w (events.Close id)) ≡ false
closed_none id w = go (is_open id w) refl
  where
    go : (b : Bool) → is_open id w ≡ b → is_open id (cond b (settled (record w { sessions = without_session id w.sessions })) w) ≡ false
    go false e = e
    go true e = open_settled id (record w { sessions = without_session id w.sessions }) ∙ ap is_some (find_without id w.sessions)

-- A SESSION OPENS

or_some : (o p : Option Session) → is_some o ≡ true → is_some (option_or o p) ≡ true
or_some None p h = cc
or_some (Some x) p h = refl

step_open : (id : ℕ) (user : List ℕ) (rows cols : ℕ) (w : World) → can_open w id user rows cols ≡ true → step w (events.Open id user rows cols) ≡ settled (opened w id user rows cols)
step_open id user rows cols w can = ap (λ b. cond b (settled (opened w id user rows cols)) w) can

pub opened_stays : (other id : ℕ) (user : List ℕ) (rows cols : ℕ) (w : World) → can_open w id user rows cols ≡ true → is_open other w ≡ true → is_open other (step w (events.Open id user rows cols)) ≡ true
opened_stays other id user rows cols w can there =
    ap (is_open other) (step_open id user rows cols w can)
    ∙ open_settled other (opened w id user rows cols)
    ∙ ap is_some (find-append (has_id other) w.sessions (new_session w.directory w.buffers id user rows cols ∷ []))
    ∙ or_some (find_session other w.sessions) (find_session other (new_session w.directory w.buffers id user rows cols ∷ [])) there

pub opened_others : (other id : ℕ) (user : List ℕ) (rows cols : ℕ) (w : World) → can_open w id user rows cols ≡ true → nat_eq id other ≡ false → is_open other (step w (events.Open id user rows cols)) ≡ is_open other w
opened_others other id user rows cols w can apart =
    let x : Session = new_session w.directory w.buffers id user rows cols in
    ap (is_open other) (step_open id user rows cols w can)
    ∙ open_settled other (opened w id user rows cols)
    ∙ ap is_some (find-append (has_id other) w.sessions (x ∷ []))
    ∙ by (find_session other w.sessions) x (ap (λ b. cond b (Some x) None) apart)
  where
    by : (o : Option Session) (x : Session) → find_session other (x ∷ []) ≡ None → is_some (option_or o (find_session other (x ∷ []))) ≡ is_some o
    by None x e = ap is_some e
    by (Some y) x e = refl
