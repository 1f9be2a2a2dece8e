-- An act that fails changes its session's state alone, and the act that ends its session takes it away.
use Rattle.std.proofs.Common.{◌≡◌, ℕ, Bool, true, false, not, cond, List, [], ◌∷◌, map, Option, Some, refl, ap, ◌∙◌}
use Rattle.std.specs.Option.{option_map}
use Rattle.std.proofs.lemmas.List.{map-id}
use Rattle.mgs_model.specs.World.{World, Session, State, has_id, find_session}
use Rattle.mgs_model.specs.View.{View, view}
use Rattle.mgs_model.specs.Outcome.{Act, Run, Outcome, Quit, Keep_kill, Stay}
use Rattle.mgs_model.specs.Plans.{acted_state, failed_state, setting}
use Rattle.mgs_model.specs.Acts.{fails, outcome, sets}
use Rattle.mgs_model.specs.Apply.{act, applied, apply, change_first, session_after, session_arranged, without_session}
use Rattle.mgs_model.specs.Events.{state_set, with_state}
use Rattle.mgs_model.specs.declared.echo_text.Message.{Message}
use Rattle.mgs_model.specs.declared.echo_text.Message.TheVariants.{Says}
use Rattle.mgs_model.specs.declared.echo_text.Notice.TheVariants.{InMacro}
use Rattle.mgs_model.specs.declared.session.Command.TheVariants.{Set, Exit}
use Rattle.mgs_model.specs.declared.session.Setting.TheVariants.{CallMacro}
use Rattle.mgs_laws.proofs.LeftToDo.{state_twice, seen_begun}
use Rattle.mgs_laws.proofs.Turning.{begun_view}
use Rattle.std.specs.Prelude.{Err}

-- AN ACT THAT FAILS

-- the end of a session while a macro plays
pub exit_fails : (v : View) (n : Option ℕ) (stored : Bool) → v.session.state.playing ≡ true → outcome v (Run Exit n []) stored ≡ fails v.session.state (Says InMacro)
unfolding outcome
exit_fails v n stored playing = ap (λ (b : Bool). let ends : Outcome = record { state = acted_state v.session.state; kill = Keep_kill; arrange = Stay; effect = Quit } in cond b (fails v.session.state (Says InMacro)) ends) playing

-- a macro that cannot be played
pub call_fails : (v : View) (n : Option ℕ) (message : Message) (stored : Bool) → setting CallMacro (acted_state v.session.state) n ≡ Err message → outcome v (Run (Set CallMacro) n []) stored ≡ fails v.session.state message
unfolding outcome
call_fails v n message stored refused = ap (sets v.session.state) refused

failed_arranged : (w : World) (id : ℕ) (state : State) (message : Message) → apply (with_state id (λ old. state) w) id (fails state message) ≡ with_state id (λ old. failed_state message state) w
failed_arranged w id state message =
    let v : World = with_state id (λ old. state) w in
    let f : Session → Session = state_set (λ old. failed_state message state) in
    ap (λ xs. record w { sessions = change_first (has_id id) f xs }) (map-id v.sessions)
    ∙ state_twice id (failed_state message state) (λ old. state) w refl

pub act_fails : (w : World) (id : ℕ) (state : State) (c : Act) (message : Message) (stored : Bool) (x : Session) → find_session id w.sessions ≡ Some x → ((v : View) → v.session.state ≡ state → outcome v c stored ≡ fails v.session.state message) → act (with_state id (λ old. state) w) id c stored ≡ with_state id (λ old. failed_state message state) w
act_fails w id state c message stored x found known =
    let v : World = with_state id (λ old. state) w in
    let z : View = begun_view (λ old. state) (view w x) in
    ap (λ o. applied v id (option_map (λ (y : View). outcome y c stored) o)) (seen_begun w id (λ old. state) x found)
    ∙ ap (apply v id) (known z refl)
    ∙ failed_arranged w id state message

-- THE END OF A SESSION

-- a change of those that go leaves the others
without_changed : (id : ℕ) (f : Session → Session) → ((x : Session) → has_id id (f x) ≡ has_id id x) → (xs : List Session) → without_session id (change_first (has_id id) f xs) ≡ without_session id xs
without_changed id f same [] = refl
without_changed id f same (x ∷ xs) = by (without_changed id f same xs) (has_id id x) refl
  where
    by : without_session id (change_first (has_id id) f xs) ≡ without_session id xs → (c : Bool) → has_id id x ≡ c → without_session id (cond c (f x ∷ xs) (x ∷ change_first (has_id id) f xs)) ≡ cond (not c) (x ∷ without_session id xs) (without_session id xs)
    by later true e = ap (λ (b : Bool). cond (not b) (f x ∷ without_session id xs) (without_session id xs)) (same x ∙ e)
    by later false e = ap (λ (b : Bool). cond (not b) (x ∷ without_session id (change_first (has_id id) f xs)) (without_session id (change_first (has_id id) f xs))) e ∙ ap (λ ys. x ∷ ys) later

abbrev ends : State → Outcome
ends state = record { state = acted_state state; kill = Keep_kill; arrange = Stay; effect = Quit }

exit_ends : (v : View) (n : Option ℕ) (stored : Bool) → v.session.state.playing ≡ false → outcome v (Run Exit n []) stored ≡ ends v.session.state
unfolding outcome
exit_ends v n stored typed = ap (λ (b : Bool). cond b (fails v.session.state (Says InMacro)) (ends v.session.state)) typed

ends_world : (w : World) (state : State) (id : ℕ) → apply (with_state id (λ old. state) w) id (ends state) ≡ record w { sessions = without_session id w.sessions }
ends_world w state id =
    let set : Session → Session = state_set (λ old. state) in
    ap (λ xs. record w { sessions = xs })
    (without_changed id (session_arranged (ends state)) (λ x. refl) (map (session_after Quit) (change_first (has_id id) set w.sessions))
    ∙ ap (without_session id) (map-id (change_first (has_id id) set w.sessions))
    ∙ without_changed id set (λ x. refl) w.sessions)

pub act_ends : (w : World) (state : State) (id : ℕ) (n : Option ℕ) (stored : Bool) (x : Session) → find_session id w.sessions ≡ Some x → state.playing ≡ false → act (with_state id (λ old. state) w) id (Run Exit n []) stored ≡ record w { sessions = without_session id w.sessions }
act_ends w state id n stored x found typed =
    let v : World = with_state id (λ old. state) w in
    ap (λ o. applied v id (option_map (λ z. outcome z (Run Exit n []) stored) o)) (seen_begun w id (λ old. state) x found)
    ∙ ap (apply v id) (exit_ends (begun_view (λ old. state) (view w x)) n stored typed)
    ∙ ends_world w state id
