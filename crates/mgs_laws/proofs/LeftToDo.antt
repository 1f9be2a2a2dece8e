-- What an act leaves to do, and turns that end at once.
use Rattle.std.proofs.Common.{◌≡◌, ℕ, List, [], map, refl, sym, ap, subst, ◌∙◌, Bool, true, false, cond, Option, Some, None}
use Rattle.std.specs.Prelude.{not, ◌-◌}
use Rattle.std.specs.Option.{option_map}
use Rattle.mgs_model.specs.World.{World, Session, State, Todo, has_id, find_session}
use Rattle.mgs_model.specs.View.{View, view, view_of}
use Rattle.mgs_model.specs.Outcome.{Act, Run, Outcome, Effect, Quit}
use Rattle.mgs_model.specs.Acts.{outcome, without_all}
use Rattle.mgs_model.specs.Apply.{is_search_mode, change_first, apply, applied, act, after_quit, session_after, session_arranged}
use Rattle.mgs_model.specs.Turns.{todo_turn, next}
use Rattle.mgs_model.specs.Events.{state_set, with_state, turn_in, turn_seen, rests}
use Rattle.mgs_model.specs.declared.session.Setting.{Setting}
use Rattle.mgs_model.specs.declared.session.Setting.TheVariants.{CallMacro}
use Rattle.mgs_model.specs.declared.session.Command.TheVariants.{Set}
use Rattle.mgs_model.proofs.Firsts.{change_twice, find-change_first}
use Rattle.mgs_laws.proofs.After.{find_after, find_without}
use Rattle.mgs_laws.proofs.Turning.{begun_view, view_with_state}
use Rattle.mgs_laws.proofs.Outcomes.{is_brief_setting, is_brief, left_holds, outcome_holds}

-- THE STATE OF A SESSION

-- it is set twice
pub state_twice : (id : ℕ) (state : State) (g : State → State) (w : World) → is_search_mode state.mode ≡ false → with_state id (λ old. state) (with_state id g w) ≡ with_state id (λ old. state) w
state_twice id state g w still =
    ap (λ xs. record w { sessions = xs }) (change_twice (has_id id) (state_set (λ old. state)) (state_set g) (state_set (λ old. state)) (λ x. refl) (λ x. ap (λ (c : Bool). record x { search = cond c (cond (is_search_mode (g x.state).mode) x.search None) None; state = state }) still ∙ sym (ap (λ (c : Bool). record x { search = cond c x.search None; state = state }) still)) w.sessions)

pub found_state : (w : World) (id : ℕ) (f : State → State) (x : Session) → find_session id w.sessions ≡ Some x → find_session id (with_state id f w).sessions ≡ Some (state_set f x)
found_state w id f x found = find-change_first (has_id id) (state_set f) (λ y. refl) w.sessions ∙ ap (option_map (state_set f)) found

-- WHAT COMES NEXT

pub seen_begun : (w : World) (id : ℕ) (f : State → State) (x : Session) → find_session id w.sessions ≡ Some x → view_of (with_state id f w) id ≡ Some (begun_view f (view w x))
seen_begun w id f x found = view_with_state w id f ∙ ap (λ o. option_map (begun_view f) (option_map (view w) o)) found

-- where nothing is left to do
pub rests_seen : (v : View) → v.session.state.todo ≡ [] → rests (next v) ≡ true
unfolding next
rests_seen v e = ap (λ todo. rests (todo_turn v v.session.state todo)) e

pub rests_with_state : (w : World) (id : ℕ) (f : State → State) (x : Session) → find_session id w.sessions ≡ Some x → (f x.state).todo ≡ [] → rests (turn_in (with_state id f w) id) ≡ true
rests_with_state w id f x found e =
    ap (λ o. rests (turn_seen o)) (seen_begun w id f x found) ∙ rests_seen (begun_view f (view w x)) e

pub rests_found : (w : World) (id : ℕ) (o : Option Session) → find_session id w.sessions ≡ o → ((x : Session) → o ≡ Some x → x.state.todo ≡ []) → rests (turn_in w id) ≡ true
rests_found w id None found e = ap (λ s. rests (turn_seen (option_map (view w) s))) found
rests_found w id (Some x) found e = ap (λ s. rests (turn_seen (option_map (view w) s))) found ∙ rests_seen (view w x) (e x refl)

-- what the session of an act has still to do then
pub todo_applied : (P : List Todo → Type 0) (w : World) (id : ℕ) (o : Outcome) → P o.state.todo → (y : Session) → find_session id (apply w id o).sessions ≡ Some y → P y.state.todo
todo_applied P w id o h y found = by o.effect refl
  where
    arranged : (s : Option Session) → option_map (λ x. session_arranged o (session_after o.effect x)) s ≡ Some y → P y.state.todo
    arranged None q = cc
    arranged (Some x) q = (let r : session_arranged o (session_after o.effect x) ≡ y = cc in subst (λ (z : Session). P z.state.todo) r h)

    stays : (q : (xs : List Session) → after_quit o.effect id xs ≡ xs) → P y.state.todo
    stays q =
        arranged (find_session id w.sessions)
        (sym (ap (find_session id) (q (change_first (has_id id) (session_arranged o) (map (session_after o.effect) w.sessions))) ∙ find_after id o w.sessions) ∙ found)

    by : (f : Effect) → o.effect ≡ f → P y.state.todo
    by Quit q =
        let gone : find_session id (apply w id o).sessions ≡ None =
        ap (λ f. find_session id (after_quit f id (change_first (has_id id) (session_arranged o) (map (session_after o.effect) w.sessions)))) q ∙ find_without id (change_first (has_id id) (session_arranged o) (map (session_after o.effect) w.sessions)) in
        cc
    by f q = stays (λ xs. ap (λ g. after_quit g id xs) q)

-- WHAT AN ACT LEAVES TO DO: what was to be done, but for a replacing of all that is over, or nothing

abbrev pub is_replayed : Setting → Bool
is_replayed CallMacro = true
is_replayed _ = false

abbrev pub is_single : Act → Bool
is_single (Run (Set c) n typed) = not (is_replayed c)
is_single _ = true

brief_setting : (state : State) (c : Setting) (n : Option ℕ) → not (is_replayed c) ≡ true → is_brief_setting state c n ≡ true
brief_setting state CallMacro n h = cc
brief_setting state _ n h = refl

pub single_brief : (state : State) (c : Act) → is_single c ≡ true → is_brief state c ≡ true
single_brief state (Run (Set c) n typed) h = brief_setting state c n h
single_brief state _ h = refl

-- whatever holds of what is still to be done holds after an act that leaves no more
pub todo_acted : (P : List Todo → Type 0) → P [] → ((todo : List Todo) → P todo → P (without_all todo)) → (w : World) (id : ℕ) (state : State) (c : Act) (stored : Bool) (x y : Session) → find_session id w.sessions ≡ Some x → is_brief state c ≡ true → P state.todo
    → find_session id (act (with_state id (λ old. state) w) id c stored).sessions ≡ Some y → P y.state.todo
todo_acted P none rest w id state c stored x y found brief h stays =
    let v : View = begun_view (λ old. state) (view w x) in
    todo_applied P (with_state id (λ old. state) w) id (outcome v c stored) (left_holds P none rest state.todo (outcome v c stored).state.todo ((outcome_holds v c stored).todo brief) h) y
    (sym (ap (λ o. find_session id (applied (with_state id (λ old. state) w) id (option_map (λ z. outcome z c stored) o)).sessions) (seen_begun w id (λ old. state) x found)) ∙ stays)
