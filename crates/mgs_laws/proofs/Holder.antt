-- A kill stays its holder's: whatever a session does, no other session's kill buffer changes.
use Rattle.std.proofs.Common.{◌≡◌, ℕ, zero, suc, List, [], ◌∷◌, ◌++◌, map, not, refl, sym, ap, ◌∙◌, Bool, true, false, cond, ◌==◌, Option, Some, None}
use Rattle.std.specs.Option.{option_map}
use Rattle.std.proofs.lemmas.Bool.{eqb-true}
use Rattle.mgs_model.specs.World.{World, Session, State, has_id, find_session}
use Rattle.mgs_model.specs.View.{View, view_of}
use Rattle.mgs_model.specs.Acts.{outcome}
use Rattle.mgs_model.specs.Outcome.{Act, Outcome, Keep_kill, Effect, Edit, Kill, Quit}
use Rattle.mgs_model.specs.Apply.{apply, applied, kill_after, outcome_in, act, change_first, session_after, session_arranged, after_quit, without_session}
use Rattle.mgs_model.specs.Turns.{Turn, Rest, Keep, Do}
use Rattle.mgs_model.specs.Events.{Event, Open, Byte, Close, state_set, with_state, begun_state, refused_state, Doing, turn_in, turn_done, turns, most_turns, begun, session_settled, settled, new_session, opened, can_open, is_open, step, effect_in}
use Rattle.mgs_model.proofs.Paths.{all_turns}
use Rattle.mgs_laws.specs.Holder.{kill_of, kill_in, session_in, KillStays, is_rule, RulesKeepKills}
use Rattle.mgs_model.proofs.Firsts.{find-change_first_other, find-map}
use Rattle.mgs_laws.proofs.After.{find_moved}
use Rattle.mgs_laws.proofs.Outcomes.{outcome_holds}

apart : (id other : ℕ) → (id == other) ≡ false → (x : Session) → has_id id x ≡ true → has_id other x ≡ false
apart id other e x h = ap (λ n. n == other) (eqb-true x.id id h) ∙ e

kill_after_effect : (e : Effect) (x : Session) → (session_after e x).kill ≡ x.kill
kill_after_effect (Edit name a b put) x = refl
kill_after_effect (Kill name) x = refl
kill_after_effect _ x = refl

moved : (e : Effect) (o : Option Session) → kill_of (option_map (session_after e) o) ≡ kill_of o
moved e None = refl
moved e (Some x) = ap Some (kill_after_effect e x)

pub find_others : (id other : ℕ) → (id == other) ≡ false → (xs : List Session) → find_session other (without_session id xs) ≡ find_session other xs
find_others id other e [] = refl
find_others id other e (x ∷ xs) = choose (has_id id x) refl (find_others id other e xs)
  where
    choose : (c : Bool) → has_id id x ≡ c → find_session other (without_session id xs) ≡ find_session other xs → find_session other (cond (not c) (x ∷ without_session id xs) (without_session id xs)) ≡ cond (has_id other x) (Some x) (find_session other xs)
    choose true h ih = ih ∙ ap (λ b. cond b (Some x) (find_session other xs)) (sym (apart id other e x h))
    choose false h ih = ap (cond (has_id other x) (Some x)) ih

after_end : (id other : ℕ) → (id == other) ≡ false → (e : Effect) (xs : List Session) → find_session other (after_quit e id xs) ≡ find_session other xs
after_end id other d Quit xs = find_others id other d xs
after_end id other d _ xs = refl

state_keeps : (id other : ℕ) → (id == other) ≡ false → (f : State → State) (w : World) → kill_in (with_state id f w) other ≡ kill_in w other
state_keeps id other d f w = ap kill_of (find-change_first_other (has_id id) (has_id other) (state_set f) (λ x. refl) (apart id other d) w.sessions)

applied_keeps : (id other : ℕ) → (id == other) ≡ false → (w : World) (o : Option Outcome) → kill_in (applied w id o) other ≡ kill_in w other
applied_keeps id other d w None = refl
applied_keeps id other d w (Some o) =
    ap kill_of (after_end id other d o.effect (change_first (has_id id) (session_arranged o) (map (session_after o.effect) w.sessions)))
    ∙ ap kill_of (find-change_first_other (has_id id) (has_id other) (session_arranged o) (λ x. refl) (apart id other d) (map (session_after o.effect) w.sessions))
    ∙ ap kill_of (find_moved other o.effect w.sessions)
    ∙ moved o.effect (find_session other w.sessions)

act_keeps : (id other : ℕ) → (id == other) ≡ false → (stored : Bool) (state : State) (c : Act) (w : World) → kill_in (act (with_state id (λ old. state) w) id c stored) other ≡ kill_in w other
act_keeps id other d stored state c w =
    applied_keeps id other d (with_state id (λ old. state) w) (outcome_in (with_state id (λ old. state) w) id c stored) ∙ state_keeps id other d (λ old. state) w

turn_keeps : (id other : ℕ) → (id == other) ≡ false → (stored : Bool) (t : Turn) (w : World) (memory : Option ℕ) → kill_in (turn_done id stored t w memory).world other ≡ kill_in w other
turn_keeps id other d stored Rest w memory = refl
turn_keeps id other d stored (Keep state) w memory = state_keeps id other d (λ old. state) w
turn_keeps id other d stored (Do state c) w None = act_keeps id other d stored state c w
turn_keeps id other d stored (Do state c) w (Some zero) = state_keeps id other d refused_state w
turn_keeps id other d stored (Do state c) w (Some (suc n)) = act_keeps id other d stored state c w

-- EVENTS

turns_keep : (n id other : ℕ) → (id == other) ≡ false → (stored : Bool) (d : Doing) → kill_in (turns n id stored d).world other ≡ kill_in d.world other
turns_keep n id other e stored d =
    all_turns (λ f. kill_in f.world other ≡ kill_in d.world other) id stored (λ f same. turn_keeps id other e stored (turn_in f.world id) f.world f.memory ∙ same) n d refl

settled_keeps : (w : World) (other : ℕ) → kill_in (settled w) other ≡ kill_in w other
settled_keeps w other =
    ap kill_of (find-map (session_settled w.directory w.buffers) (has_id other) (has_id other) (λ x. refl) w.sessions) ∙ same (find_session other w.sessions)
  where
    same : (o : Option Session) → kill_of (option_map (session_settled w.directory w.buffers) o) ≡ kill_of o
    same None = refl
    same (Some x) = refl

find_before : (other : ℕ) (y : Session) → has_id other y ≡ false → (xs : List Session) → find_session other (xs ++ y ∷ []) ≡ find_session other xs
find_before other y e [] = ap (λ b. cond b (Some y) None) e
find_before other y e (x ∷ xs) = ap (cond (has_id other x) (Some x)) (find_before other y e xs)

if_done : (b : Bool) (other : ℕ) (v w : World) → kill_in v other ≡ kill_in w other → kill_in (cond b v w) other ≡ kill_in w other
if_done true other v w e = e
if_done false other v w e = refl

step_keeps : (w : World) (e : Event) (other : ℕ) → (session_in e == other) ≡ false → kill_in (step w e) other ≡ kill_in w other
step_keeps w (Open id user rows cols) other d =
    if_done (can_open w id user rows cols) other (settled (opened w id user rows cols)) w
    (settled_keeps (opened w id user rows cols) other ∙ ap kill_of (find_before other (new_session w.directory w.buffers id user rows cols) d w.sessions))
step_keeps w (Byte id byte stored stop) other d =
    if_done (is_open id w) other (settled (turns most_turns id stored (begun w id byte stop)).world) w
    (settled_keeps (turns most_turns id stored (begun w id byte stop)).world other
    ∙ turns_keep most_turns id other d stored (begun w id byte stop)
    ∙ state_keeps id other d (begun_state byte) w)
step_keeps w (Close id) other d =
    if_done (is_open id w) other (settled (record w { sessions = without_session id w.sessions })) w
    (settled_keeps (record w { sessions = without_session id w.sessions }) other ∙ ap kill_of (find_others id other d w.sessions))

pub kill_stays : KillStays
kill_stays w other [] h = refl
kill_stays w other (e ∷ es) h = kill_stays (step w e) other es h.1 ∙ step_keeps w e other h.0

-- ACTS WITH SUCH AN EFFECT

changed_keeps : (o : Outcome) → o.kill ≡ Keep_kill → (id holder : ℕ) (xs : List Session) → kill_of (find_session holder (change_first (has_id id) (session_arranged o) xs)) ≡ kill_of (find_session holder xs)
changed_keeps o e id holder [] = refl
changed_keeps o e id holder (x ∷ xs) = choose (has_id id x) (changed_keeps o e id holder xs)
  where
    look : (c : Bool) (f g : Option Session) → kill_of f ≡ kill_of g → kill_of (cond c (Some x) f) ≡ kill_of (cond c (Some x) g)
    look true f g h = refl
    look false f g h = h

    mine : (c : Bool) → kill_of (cond c (Some (session_arranged o x)) (find_session holder xs)) ≡ kill_of (cond c (Some x) (find_session holder xs))
    mine true = ap (λ p. Some (kill_after p x.kill)) e
    mine false = refl

    choose : (b : Bool) → kill_of (find_session holder (change_first (has_id id) (session_arranged o) xs)) ≡ kill_of (find_session holder xs)
        → kill_of (find_session holder (cond b (session_arranged o x ∷ xs) (x ∷ change_first (has_id id) (session_arranged o) xs))) ≡ kill_of (find_session holder (x ∷ xs))
    choose true ih = mine (has_id holder x)
    choose false ih = look (has_id holder x) (find_session holder (change_first (has_id id) (session_arranged o) xs)) (find_session holder xs) ih

stays_open : (e : Effect) → is_rule e ≡ true → (id : ℕ) (xs : List Session) → after_quit e id xs ≡ xs
stays_open Quit h id xs = cc
stays_open _ h id xs = refl

rule_keeps : (w : World) (id holder : ℕ) (o : Outcome) → is_rule o.effect ≡ true → o.kill ≡ Keep_kill → kill_in (apply w id o) holder ≡ kill_in w holder
rule_keeps w id holder o r k =
    ap (λ xs. kill_of (find_session holder xs)) (stays_open o.effect r id (change_first (has_id id) (session_arranged o) (map (session_after o.effect) w.sessions)))
    ∙ changed_keeps o k id holder (map (session_after o.effect) w.sessions)
    ∙ ap kill_of (find_moved holder o.effect w.sessions)
    ∙ moved o.effect (find_session holder w.sessions)

same_effect : (a b : Effect) → a ∷ [] ≡ b ∷ [] → a ≡ b
same_effect a b e = cc

pub rules_keep_kills : RulesKeepKills
rules_keep_kills w id c stored e is rule holder = go (view_of w id) is
  where
    go : (o : Option View) → effect_in (option_map (λ v. outcome v c stored) o) ≡ e ∷ [] → kill_in (applied w id (option_map (λ v. outcome v c stored) o)) holder ≡ kill_in w holder
    go None is = refl
    go (Some v) is =
        let ruled : is_rule (outcome v c stored).effect ≡ true = ap is_rule (same_effect (outcome v c stored).effect e is) ∙ rule in
        rule_keeps w id holder (outcome v c stored) ruled ((outcome_holds v c stored).kills ruled)
