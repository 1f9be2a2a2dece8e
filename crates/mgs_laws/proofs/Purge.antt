-- Work inside closed buffers leaves no trace for users who have no right on them.
use Rattle.std.proofs.Common.{◌≡◌, ℕ, zero, suc, ◌-◌, List, [], ◌∷◌, not, refl, sym, ap, ◌∙◌, Bool, true, false, cond, Option, Some, None}
use Rattle.mgs_model.specs.World.{World, Session, find_session, find_buffer}
use Rattle.mgs_model.specs.Apply.{without_session}
use Rattle.mgs_model.specs.Events.{Event, Open, Byte, Close, settled, is_open, can_open, opened, Doing, turn_seen, turn_in, rests, turn, turns, most_turns, begun_state, begun, byte_done, step, run, turns_effects}
use Rattle.mgs_model.proofs.Paths.{all_turns, turns_none, turns_step}
use Rattle.mgs_laws.specs.Secrecy.{IsOf}
use Rattle.mgs_laws.specs.Purging.{InsideAll, Closed, is_other, is_outside, purge, Inside, OthersInside, Purged}
use Rattle.mgs_laws.proofs.Erasing.{closed}
use Rattle.mgs_laws.proofs.Outline.{outline}
use Rattle.mgs_laws.proofs.Turning.{state_same, SameDoings, turn_same}
use Rattle.mgs_laws.proofs.Stepping.{the_world, at_rest, of_next, of_begun, screens_seen}
use Rattle.mgs_laws.proofs.Unseen.{Like, closed_like, view_of_like, outlines}
use Rattle.mgs_laws.proofs.Closing.{closed_with_state, closed_turn}
use Rattle.mgs_laws.proofs.Inside.{other_with_state, with_state_inside, turns_inside}
use Rattle.mgs_laws.proofs.Settling.{find_not_shut, settled_like, settled_step}

-- THE TURNS OF THE USERS

abbrev LikeDoings : (List ℕ → Bool) → (List ℕ → Bool) → Doing → Doing → Type 0
LikeDoings users shut d e = SameDoings (outline users shut) d e

turns_like : (n : ℕ) (users shut : List ℕ → Bool) (id : ℕ) (stored : Bool) (d e : Doing) → LikeDoings users shut d e → Closed users shut d.world → IsOf users (find_session id d.world.sessions) → Like users shut (turns n id stored d).world (turns n id stored e).world
turns_like zero users shut id stored d e p h g =
    ap (λ (f : Doing). outline users shut f.world) (turns_none id stored d) ∙ p.0 ∙ sym (ap (λ (f : Doing). outline users shut f.world) (turns_none id stored e))
turns_like (suc n) users shut id stored d e p h g =
    ap (λ (f : Doing). outline users shut f.world) (turns_step n id stored d)
    ∙ go (at_rest id d) (at_rest id e) (ap (λ v. rests (turn_seen v)) (view_of_like users shut d.world e.world id p.0 h g))
    (turns_like n users shut id stored (turn id stored d) (turn id stored e)
    (turn_same (outline users shut) (outlines users shut).erasure id stored d e p (view_of_like users shut d.world e.world id p.0 h g)) (closed_turn users shut id stored (turn_in d.world id) d.world d.memory g h) (of_next users id stored d g))
    ∙ sym (ap (λ (f : Doing). outline users shut f.world) (turns_step n id stored e))
  where
    go : (c k : Bool) → c ≡ k → Like users shut (turns n id stored (turn id stored d)).world (turns n id stored (turn id stored e)).world → Like users shut (the_world (cond c d (turns n id stored (turn id stored d)))) (the_world (cond k e (turns n id stored (turn id stored e))))
    go true true r ih = p.0
    go false false r ih = ih
    go true false r ih = cc
    go false true r ih = cc

turns_closed : (n : ℕ) (users shut : List ℕ → Bool) (id : ℕ) (stored : Bool) (d : Doing) → Closed users shut d.world → IsOf users (find_session id d.world.sessions) → Closed users shut (turns n id stored d).world
turns_closed n users shut id stored d h g =
    (all_turns (λ e. Closed users shut e.world × IsOf users (find_session id e.world.sessions)) id stored
    (λ e p. (closed_turn users shut id stored (turn_in e.world id) e.world e.memory p.1 p.0, of_next users id stored e p.1)) n d (h, g)).0

-- A STEP OF THE USERS

begun_like : (users shut : List ℕ → Bool) (id byte : ℕ) (stop : Option ℕ) (w v : World) → Like users shut w v → LikeDoings users shut (begun w id byte stop) (begun v id byte stop)
begun_like users shut id byte stop w v e = (state_same (outline users shut) (outlines users shut).erasure w v id (begun_state byte) e, refl)

of_inside : (users : List ℕ → Bool) (o : Option Session) → is_other users o ≡ false → IsOf users o
of_inside users None e = tt
of_inside users (Some x) e = choose (users x.user) e
  where
    choose : (c : Bool) → not c ≡ false → c ≡ true
    choose true r = refl
    choose false r = sym r

byte_like : (users shut : List ℕ → Bool) (w v : World) (id byte : ℕ) (stored : Bool) (stop : Option ℕ) → Like users shut w v → Closed users shut w → IsOf users (find_session id w.sessions) → Like users shut (settled (byte_done w id byte stored stop)) (settled (byte_done v id byte stored stop))
byte_like users shut w v id byte stored stop e h g =
    settled_like users shut (byte_done w id byte stored stop) (byte_done v id byte stored stop)
    (turns_like most_turns users shut id stored (begun w id byte stop) (begun v id byte stop) (begun_like users shut id byte stop w v e) (closed_with_state users shut id (begun_state byte) w h) (of_begun users id byte stop w g))

step_like : (users shut : List ℕ → Bool) (w v : World) (e : Event) → Like users shut w v → Closed users shut w → is_outside users w e ≡ false → Like users shut (step w e) (step v e)
step_like users shut w v (Open id user rows cols) p h g =
    (outlines users shut).open_same w v id user rows cols (λ e. settled_like users shut (opened w id user rows cols) (opened v id user rows cols) e) p
step_like users shut w v (Byte id byte stored stop) p h g =
    choose (is_open id w) (is_open id v) ((outlines users shut).is_open_same w v id p)
  where
    choose : (c k : Bool) → c ≡ k → Like users shut (cond c (settled (byte_done w id byte stored stop)) w) (cond k (settled (byte_done v id byte stored stop)) v)
    choose true true e = byte_like users shut w v id byte stored stop p h (of_inside users (find_session id w.sessions) g)
    choose false false e = p
    choose true false e = cc
    choose false true e = cc
step_like users shut w v (Close id) p h g = (outlines users shut).close_same w v id (λ e. settled_like users shut (closed id w) (closed id v) e) p

closed_cond : (c : Bool) (users shut : List ℕ → Bool) (w v : World) → Closed users shut w → Closed users shut v → Closed users shut (cond c (settled v) w)
closed_cond true users shut w v h k = record { there = k.there; no_rights = k.no_rights }
closed_cond false users shut w v h k = h

closed_step : (users shut : List ℕ → Bool) (w : World) (e : Event) → Closed users shut w → is_outside users w e ≡ false → Closed users shut (step w e)
closed_step users shut w (Open id user rows cols) h g = closed_cond (can_open w id user rows cols) users shut w (opened w id user rows cols) h (record { there = h.there; no_rights = h.no_rights })
closed_step users shut w (Byte id byte stored stop) h g =
    closed_cond (is_open id w) users shut w (byte_done w id byte stored stop) h
    (turns_closed most_turns users shut id stored (begun w id byte stop) (closed_with_state users shut id (begun_state byte) w h) (of_begun users id byte stop w (of_inside users (find_session id w.sessions) g)))
closed_step users shut w (Close id) h g = closed_cond (is_open id w) users shut w (record w { sessions = without_session id w.sessions }) h (record { there = h.there; no_rights = h.no_rights })

-- A STEP OF OTHERS

step_inside : (users shut : List ℕ → Bool) (w : World) (e : Event) → settled w ≡ w → is_outside users w e ≡ true → Inside shut w e → Like users shut (step w e) w
step_inside users shut w (Open id user rows cols) q o p = absurd p
step_inside users shut w (Close id) q o p = absurd p
step_inside users shut w (Byte id byte stored stop) q o p = choose (is_open id w) p
  where
    choose : (c : Bool) → InsideAll shut (cond c (turns_effects most_turns id stored (begun w id byte stop)) []) → Like users shut (cond c (settled (byte_done w id byte stored stop)) w) w
    choose true p =
        settled_like users shut (byte_done w id byte stored stop) w (turns_inside most_turns users shut id stored (begun w id byte stop) p (other_with_state users id (begun_state byte) w o) ∙ with_state_inside users shut id (begun_state byte) w o)
        ∙ ap (outline users shut) q
    choose false p = refl

-- RUNS

run_like : (users shut : List ℕ → Bool) (w v : World) (es : List Event) → Like users shut w v → settled w ≡ w → Closed users shut w → OthersInside users shut w es → Like users shut (run w es) (run v (purge users w es))
run_like users shut w v [] p q h i = p
run_like users shut w v (e ∷ es) p q h i =
    choose (λ u. run_like users shut (step w e) u es) (is_outside users w e) refl
  where
    choose : ((u : World) → Like users shut (step w e) u → settled (step w e) ≡ step w e → Closed users shut (step w e) → OthersInside users shut (step w e) es → Like users shut (run (step w e) es) (run u (purge users (step w e) es))) → (c : Bool) → is_outside users w e ≡ c → Like users shut (run (step w e) es) (run v (cond c (purge users (step w e) es) (e ∷ purge users (step w e) es)))
    choose ih true o =
        ih v (step_inside users shut w e q o (i.0 o) ∙ p) (settled_step w e q) (closed_like users shut w (step w e) (sym (step_inside users shut w e q o (i.0 o))) h) i.1
    choose ih false o = ih (step v e) (step_like users shut w v e p h o) (settled_step w e q) (closed_step users shut w e h o) i.1

run_closed : (users shut : List ℕ → Bool) (w : World) (es : List Event) → settled w ≡ w → Closed users shut w → OthersInside users shut w es → Closed users shut (run w es)
run_closed users shut w [] q h i = h
run_closed users shut w (e ∷ es) q h i = run_closed users shut (step w e) es (settled_step w e q) (after (is_outside users w e) refl) i.1
  where
    after : (c : Bool) → is_outside users w e ≡ c → Closed users shut (step w e)
    after true o = closed_like users shut w (step w e) (sym (step_inside users shut w e q o (i.0 o))) h
    after false o = closed_step users shut w e h o

pub purged : Purged
purged users shut w es q h i = record {
  screens = λ id g. screens_seen (run w es) (run w (purge users w es)) id (view_of_like users shut (run w es) (run w (purge users w es)) id like (run_closed users shut w es q h i) g);
  others = λ n p. sym (find_not_shut shut n p (run w es).buffers) ∙ ap (λ x. find_buffer n x.buffers) like ∙ find_not_shut shut n p (run w (purge users w es)).buffers;
}
  where
    like : Like users shut (run w es) (run w (purge users w es))
    like = run_like users shut w w es refl q h i
