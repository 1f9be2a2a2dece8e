-- What others do inside closed buffers leaves the outline.
use Rattle.std.proofs.Common.{[], ◌∷◌, ◌++◌, ◌≡◌, ℕ, zero, suc, List, length, map, not, refl, sym, ap, ◌∙◌, subst, Bool, true, false, cond, Option, Some, None}
use Rattle.std.specs.Option.{option_map}
use Rattle.mgs_model.specs.Names.{same_name}
use Rattle.mgs_model.specs.World.{World, Buffer, Session, Window, Place, Search, State, Shows, Nothing, Buffer_of, Listing, List_of, is_named, has_id, find_session}
use Rattle.mgs_model.specs.Outcome.{Act, Outcome, Effect, No_effect, Edit, Unmodified, Save}
use Rattle.mgs_model.specs.Text.{shift, is_edit}
use Rattle.mgs_model.specs.Apply.{change_first, buffers_after, buffer_edited, buffer_unmodified, is_in, session_after, session_arranged, window_moved, place_moved, search_moved, after_quit, apply, applied, outcome_in, act}
use Rattle.mgs_model.specs.Turns.{Turn, Rest, Keep, Do}
use Rattle.mgs_model.specs.Events.{Doing, turn_in, refused_state, state_set, with_state, turn_done, turn, turns, effect_in, act_effects, turn_effects, turns_effects}
use Rattle.mgs_model.proofs.Paths.{effects_step, turns_none, turns_step}
use Rattle.mgs_laws.specs.Purging.{is_other, InsideEffect, InsideAll}
use Rattle.mgs_model.proofs.Blind.{change_inside, change_found, map_inside, same_names}
use Rattle.mgs_model.proofs.Firsts.{find-change_first}
use Rattle.mgs_laws.proofs.Outline.{erase_if, erase, shows_shut, forget_window_if, forget_window, forget_place_if, forget_place, forget_search_if, forget_search, forget_if, forget, outline}
use Rattle.mgs_laws.proofs.Edits.{buffer_made, place_made, search_made, window_made}
use Rattle.mgs_model.proofs.Moved.{same_of}
use Rattle.mgs_laws.proofs.Stepping.{the_world, at_rest}
use Rattle.mgs_laws.proofs.After.{user_after, find_moved, find_after}
use Rattle.mgs_laws.proofs.Unseen.{Like}

-- WHAT STAYS INSIDE LEAVES THE OUTLINE

made_inside : (h : Bool) → h ≡ true → (a b : ℕ) (put : List ℕ) (x : Buffer) → erase_if h (buffer_made a b put x) ≡ erase_if h x
made_inside true p a b put x = refl
made_inside false p a b put x = cc

edited_inside : (shut : List ℕ → Bool) (a b : ℕ) (put : List ℕ) (x : Buffer) → shut x.name ≡ true → erase shut (buffer_edited a b put x) ≡ erase shut x
edited_inside shut a b put x p = same_of (erase shut) (is_edit a b put) (buffer_made a b put x) x (made_inside (shut x.name) p a b put x)

unmodified_inside : (h : Bool) → h ≡ true → (x : Buffer) → erase_if h (buffer_unmodified x) ≡ erase_if h x
unmodified_inside true p x = refl
unmodified_inside false p x = cc

inside_name : (shut : List ℕ → Bool) (n : List ℕ) → shut n ≡ true → (m : List ℕ) → same_name n m ≡ true → shut m ≡ true
inside_name shut n p m e = sym (ap shut (same_names n m e)) ∙ p

buffers_inside : (shut : List ℕ → Bool) (e : Effect) → InsideEffect shut e → (bs : List Buffer) → map (erase shut) (buffers_after e bs) ≡ map (erase shut) bs
buffers_inside shut No_effect p bs = refl
buffers_inside shut (Edit n a b put) p bs = change_inside (erase shut) (is_named n) (buffer_edited a b put) bs (λ x e. edited_inside shut a b put x (inside_name shut n p x.name e))
buffers_inside shut (Unmodified n) p bs = change_inside (erase shut) (is_named n) buffer_unmodified bs (λ x e. unmodified_inside (shut x.name) (inside_name shut n p x.name e) x)
buffers_inside shut (Save n text) p bs = change_inside (erase shut) (is_named n) buffer_unmodified bs (λ x e. unmodified_inside (shut x.name) (inside_name shut n p x.name e) x)
buffers_inside shut _ p bs = absurd p

-- where it is moved it is shut
inside_choice : {A B : Type 0} (of : A → B) (f h : Bool) (made old : A) → (f ≡ true → h ≡ true) → (h ≡ true → of made ≡ of old) → of (cond f made old) ≡ of old
inside_choice of true h made old p e = e (p refl)
inside_choice of false h made old p e = refl

moved_inside : (h : Bool) → h ≡ true → (move : ℕ → ℕ) (x : Window) → forget_window_if h (window_made move x) ≡ forget_window_if h x
moved_inside true p move x = refl
moved_inside false p move x = cc

in_shut : (shut : List ℕ → Bool) (n : List ℕ) → shut n ≡ true → (shows : Shows) → is_in n shows ≡ true → shows_shut shut shows ≡ true
in_shut shut n p (Buffer_of m) e = inside_name shut n p m e
in_shut shut n p Nothing e = e
in_shut shut n p Listing e = e
in_shut shut n p (List_of m) e = e

place_inside : (h : Bool) → h ≡ true → (move : ℕ → ℕ) (x : Place) → forget_place_if h (place_made move x) ≡ forget_place_if h x
place_inside true p move x = refl
place_inside false p move x = cc

search_inside_if : (h : Bool) → h ≡ true → (move : ℕ → ℕ) (x : Search) → forget_search_if h (search_made move x) ≡ forget_search_if h x
search_inside_if true p move x = refl
search_inside_if false p move x = cc

search_inside : (shut : List ℕ → Bool) (n : List ℕ) (move : ℕ → ℕ) → shut n ≡ true → (o : Option Search) → forget_search shut (option_map (search_moved n move) o) ≡ forget_search shut o
search_inside shut n move p None = refl
search_inside shut n move p (Some x) =
    inside_choice (λ y. forget_search shut (Some y)) (same_name n x.name) (shut x.name) (search_made move x) x (inside_name shut n p x.name) (λ e. ap Some (search_inside_if (shut x.name) e move x))

edit_inside : (o : Bool) (shut : List ℕ → Bool) (n : List ℕ) (a b : ℕ) (put : List ℕ) → shut n ≡ true → (x : Session) → forget_if o shut (session_after (Edit n a b put) x) ≡ forget_if o shut x
edit_inside false shut n a b put p x = refl
edit_inside true shut n a b put p x =
    let move : ℕ → ℕ = shift a b (length put) in
    λ i. record x {
      windows = map_inside (forget_window shut) (window_moved n move) (λ y. inside_choice (forget_window shut) (is_in n y.shows) (shows_shut shut y.shows) (window_made move y) y (in_shut shut n p y.shows) (λ e. moved_inside (shows_shut shut y.shows) e move y)) x.windows i;
      places = map_inside (forget_place shut) (place_moved n move) (λ y. inside_choice (forget_place shut) (same_name n y.name) (shut y.name) (place_made move y) y (inside_name shut n p y.name) (λ e. place_inside (shut y.name) e move y)) x.places i;
      search = search_inside shut n move p x.search i;
    }

session_inside : (users shut : List ℕ → Bool) (e : Effect) → InsideEffect shut e → (x : Session) → forget users shut (session_after e x) ≡ forget users shut x
session_inside users shut No_effect p x = refl
session_inside users shut (Edit n a b put) p x = edit_inside (users x.user) shut n a b put p x
session_inside users shut (Unmodified n) p x = refl
session_inside users shut (Save n text) p x = refl
session_inside users shut _ p x = absurd p

quit_inside : (shut : List ℕ → Bool) (e : Effect) → InsideEffect shut e → (id : ℕ) (xs : List Session) → after_quit e id xs ≡ xs
quit_inside shut No_effect p id xs = refl
quit_inside shut (Edit n a b put) p id xs = refl
quit_inside shut (Unmodified n) p id xs = refl
quit_inside shut (Save n text) p id xs = refl
quit_inside shut _ p id xs = absurd p

not_true : (c : Bool) → not c ≡ true → c ≡ false
not_true true e = sym e
not_true false e = refl

-- what another's session holds is no part of the outline
forget_other : (o : Bool) → o ≡ false → (shut : List ℕ → Bool) (x y : Session) → x.id ≡ y.id → x.user ≡ y.user → forget_if o shut x ≡ forget_if o shut y
forget_other false e shut x y p q = λ i. record (forget_if false shut x) { id = p i; user = q i }
forget_other true e shut x y p q = cc

found_other : (users : List ℕ → Bool) (o : Option Session) (x : Session) → o ≡ Some x → is_other users o ≡ true → users x.user ≡ false
found_other users o x e h = not_true (users x.user) (ap (is_other users) (sym e) ∙ h)

other_after : (users : List ℕ → Bool) (e : Effect) (o : Option Session) → is_other users (option_map (session_after e) o) ≡ is_other users o
other_after users e None = refl
other_after users e (Some x) = ap (λ u. not (users u)) (user_after e x)

sessions_inside : (users shut : List ℕ → Bool) (id : ℕ) (o : Outcome) → InsideEffect shut o.effect → (xs : List Session) → is_other users (find_session id xs) ≡ true → map (forget users shut) (after_quit o.effect id (change_first (has_id id) (session_arranged o) (map (session_after o.effect) xs))) ≡ map (forget users shut) xs
sessions_inside users shut id o p xs h =
    ap (map (forget users shut)) (quit_inside shut o.effect p id (change_first (has_id id) (session_arranged o) (map (session_after o.effect) xs)))
    ∙ change_found (forget users shut) (has_id id) (session_arranged o) (map (session_after o.effect) xs)
    (λ y e. forget_other (users y.user) (found_other users (find_session id (map (session_after o.effect) xs)) y e (ap (is_other users) (find_moved id o.effect xs) ∙ other_after users o.effect (find_session id xs) ∙ h)) shut (session_arranged o y) y refl refl)
    ∙ map_inside (forget users shut) (session_after o.effect) (session_inside users shut o.effect p) xs

apply_inside : (users shut : List ℕ → Bool) (w : World) (id : ℕ) (o : Outcome) → InsideEffect shut o.effect → is_other users (find_session id w.sessions) ≡ true → outline users shut (apply w id o) ≡ outline users shut w
apply_inside users shut w id o p h = λ i. record w { buffers = buffers_inside shut o.effect p w.buffers i; sessions = sessions_inside users shut id o p w.sessions h i }

other_arranged : (users : List ℕ → Bool) (o : Outcome) (s : Option Session) → is_other users (option_map (λ x. session_arranged o (session_after o.effect x)) s) ≡ is_other users s
other_arranged users o None = refl
other_arranged users o (Some x) = ap (λ u. not (users u)) (user_after o.effect x)

other_apply : (users shut : List ℕ → Bool) (w : World) (id : ℕ) (o : Outcome) → InsideEffect shut o.effect → is_other users (find_session id w.sessions) ≡ true → is_other users (find_session id (apply w id o).sessions) ≡ true
other_apply users shut w id o p h =
    ap (λ xs. is_other users (find_session id xs)) (quit_inside shut o.effect p id (change_first (has_id id) (session_arranged o) (map (session_after o.effect) w.sessions)))
    ∙ ap (is_other users) (find_after id o w.sessions)
    ∙ other_arranged users o (find_session id w.sessions)
    ∙ h

pub with_state_inside : (users shut : List ℕ → Bool) (id : ℕ) (f : State → State) (w : World) → is_other users (find_session id w.sessions) ≡ true → outline users shut (with_state id f w) ≡ outline users shut w
with_state_inside users shut id f w h =
    λ i. record w {
      buffers = map (erase shut) w.buffers;
      sessions = change_found (forget users shut) (has_id id) (state_set f) w.sessions (λ y e. forget_other (users y.user) (found_other users (find_session id w.sessions) y e h) shut (state_set f y) y refl refl) i;
    }

pub other_with_state : (users : List ℕ → Bool) (id : ℕ) (f : State → State) (w : World) → is_other users (find_session id w.sessions) ≡ true → is_other users (find_session id (with_state id f w).sessions) ≡ true
other_with_state users id f w h =
    ap (is_other users) (find-change_first (has_id id) (state_set f) (λ x. refl) w.sessions) ∙ kept (find_session id w.sessions) ∙ h
  where
    kept : (s : Option Session) → is_other users (option_map (state_set f) s) ≡ is_other users s
    kept None = refl
    kept (Some x) = refl

-- it leaves the outline, and the session is another's still
Inert : (List ℕ → Bool) → (List ℕ → Bool) → ℕ → World → World → Type 0
Inert users shut id v w = Like users shut v w × (is_other users (find_session id v.sessions) ≡ true)

state_inert : (users shut : List ℕ → Bool) (id : ℕ) (f : State → State) (w : World) → is_other users (find_session id w.sessions) ≡ true → Inert users shut id (with_state id f w) w
unfolding Inert
state_inert users shut id f w h = (with_state_inside users shut id f w h, other_with_state users id f w h)

applied_inert : (users shut : List ℕ → Bool) (id : ℕ) (w : World) (o : Option Outcome) → InsideAll shut (effect_in o) → is_other users (find_session id w.sessions) ≡ true → Inert users shut id (applied w id o) w
unfolding Inert
applied_inert users shut id w None p h = (refl, h)
applied_inert users shut id w (Some o) p h = (apply_inside users shut w id o p.0 h, other_apply users shut w id o p.0 h)

act_inert : (users shut : List ℕ → Bool) (id : ℕ) (stored : Bool) (state : State) (c : Act) (w : World) → InsideAll shut (act_effects (with_state id (λ old. state) w) id c stored) → is_other users (find_session id w.sessions) ≡ true → Inert users shut id (act (with_state id (λ old. state) w) id c stored) w
unfolding Inert
act_inert users shut id stored state c w p h =
    let first : Inert users shut id (with_state id (λ old. state) w) w = state_inert users shut id (λ old. state) w h in
    let then : Inert users shut id (act (with_state id (λ old. state) w) id c stored) (with_state id (λ old. state) w) = applied_inert users shut id (with_state id (λ old. state) w) (outcome_in (with_state id (λ old. state) w) id c stored) p first.1 in
    (then.0 ∙ first.0, then.1)

turn_inert : (users shut : List ℕ → Bool) (id : ℕ) (stored : Bool) (t : Turn) (w : World) (memory : Option ℕ) → InsideAll shut (turn_effects id stored t w memory) → is_other users (find_session id w.sessions) ≡ true → Inert users shut id (turn_done id stored t w memory).world w
unfolding Inert
turn_inert users shut id stored Rest w memory p h = (refl, h)
turn_inert users shut id stored (Keep state) w memory p h = state_inert users shut id (λ old. state) w h
turn_inert users shut id stored (Do state c) w None p h = act_inert users shut id stored state c w p h
turn_inert users shut id stored (Do state c) w (Some zero) p h = state_inert users shut id refused_state w h
turn_inert users shut id stored (Do state c) w (Some (suc n)) p h = act_inert users shut id stored state c w p h

inside_append : (shut : List ℕ → Bool) (es fs : List Effect) → InsideAll shut (es ++ fs) → InsideAll shut es × InsideAll shut fs
inside_append shut [] fs h = (tt, h)
inside_append shut (e ∷ es) fs h = ((h.0, (inside_append shut es fs h.1).0), (inside_append shut es fs h.1).1)

pub turns_inside : (n : ℕ) (users shut : List ℕ → Bool) (id : ℕ) (stored : Bool) (d : Doing) → InsideAll shut (turns_effects n id stored d) → is_other users (find_session id d.world.sessions) ≡ true → Like users shut (turns n id stored d).world d.world
unfolding Inert
turns_inside zero users shut id stored d p h = ap (λ (e : Doing). outline users shut e.world) (turns_none id stored d)
turns_inside (suc n) users shut id stored d p h =
    ap (λ (e : Doing). outline users shut e.world) (turns_step n id stored d) ∙ go (at_rest id d) (subst (InsideAll shut) (effects_step n id stored d) p) (turns_inside n users shut id stored (turn id stored d))
  where
    go : (c : Bool) → InsideAll shut (cond c [] (turn_effects id stored (turn_in d.world id) d.world d.memory ++ turns_effects n id stored (turn id stored d)))
        → (InsideAll shut (turns_effects n id stored (turn id stored d)) → is_other users (find_session id (turn id stored d).world.sessions) ≡ true → Like users shut (turns n id stored (turn id stored d)).world (turn id stored d).world)
        → Like users shut (the_world (cond c d (turns n id stored (turn id stored d)))) d.world
    go true b ih = refl
    go false b ih =
        let both : InsideAll shut (turn_effects id stored (turn_in d.world id) d.world d.memory) × InsideAll shut (turns_effects n id stored (turn id stored d)) = inside_append shut (turn_effects id stored (turn_in d.world id) d.world d.memory) (turns_effects n id stored (turn id stored d)) b in
        let here : Inert users shut id (turn id stored d).world d.world = turn_inert users shut id stored (turn_in d.world id) d.world d.memory both.0 h in
        ih both.1 here.1 ∙ here.0
