-- Further replacements are left by a replacement only where its session goes on to replace.
use Rattle.std.proofs.Common.{◌≡◌, ℕ, ◌<◌, length, Bool, true, false, cond, List, map, Option, Some, None, refl, sym, ap, subst, ◌∙◌}
use Rattle.std.specs.Prelude.{Result, Ok, Err}
use Rattle.std.specs.Option.{option_map}
use Rattle.mgs_model.specs.World.{World, Session, State, find_session, has_id}
use Rattle.mgs_model.specs.View.{View, view, serial_told, size_told, text_in}
use Rattle.mgs_model.specs.Outcome.{Effect, Outcome, Run, Quit}
use Rattle.mgs_model.specs.Plans.{acted_state}
use Rattle.mgs_model.specs.SearchCommands.{Failing, Goes_on, Keep_mode, ModePlan, Over, SearchChange, replace}
use Rattle.mgs_model.specs.Acts.{Target, allowed, around_search, edit_of, fails, failing_in, is_full, judged, mode_left, needs, outcome, permitted, replaced_by, replaces_one, search_finished, target, without_all}
use Rattle.mgs_model.specs.declared.entry.Decision.{Decision}
use Rattle.mgs_model.specs.declared.entry.Decision.TheVariants.{Granted}
use Rattle.mgs_model.specs.declared.echo_text.Message.{Message}
use Rattle.mgs_model.specs.declared.echo_text.Message.TheVariants.{Says}
use Rattle.mgs_model.specs.declared.echo_text.Notice.TheVariants.{BufferFull, NoBuffer, Silent}
use Rattle.mgs_model.specs.declared.session.Replacement.{Replacement}
use Rattle.mgs_model.specs.declared.session.Command.TheVariants.{Replace}
use Rattle.mgs_model.specs.declared.session.Mode.TheVariants.{Replacing}
use Rattle.mgs_model.specs.Apply.{act, after_quit, applied, apply, change_first, session_after, session_arranged}
use Rattle.mgs_model.specs.Events.{with_state}
use Rattle.mgs_laws.proofs.After.{find_after, find_without}
use Rattle.mgs_laws.proofs.LeftToDo.{seen_begun}
use Rattle.mgs_laws.proofs.Turning.{begun_view}
use Rattle.mgs_seek.specs.Replacing.{replacement}
use Rattle.mgs_core.specs.declared.byte_acts.ModeBefore.{ModeBefore}
use Rattle.mgs_core.specs.declared.byte_acts.ByteAct.{ByteAct}
use Rattle.mgs_core.specs.declared.byte_acts.ByteAct.TheVariants as byte_acts
use Rattle.mgs_core.specs.ByteActs.{model_act, deciding_state, is_replacement}
use Rattle.mgs_core.specs.Turns.{IsFit, has_all}
use Rattle.mgs_core.proofs.Stepped.{fit_none}

failed_fits : (state : State) (message : Message) → IsFit (fails state message).state
failed_fits state message = fit_none (fails state message).state refl

-- what such a session holds may become
module _ (state : State) (mode : state.mode ≡ Replacing) (some : 0 < length state.old) (rest : has_all (without_all state.todo) ≡ false) where
  mode_fits : (c : ModePlan) → IsFit (mode_left c (record (acted_state state) { echo = Says Silent }))
  mode_fits Keep_mode = λ h. (mode, some)
  mode_fits (Goes_on n) = λ h. (mode, some)
  mode_fits (Over n) = fit_none (mode_left (Over n) (record (acted_state state) { echo = Says Silent })) rest
  mode_fits (Failing failing) = λ h. (ap (failing_in failing) mode, some)

  replaces_fit : (o : Option Target) (plan : Target → Result SearchChange Message) → IsFit (replaces_one state o plan).state
  replaces_fit None plan = failed_fits state (Says NoBuffer)
  replaces_fit (Some t) plan = elim (plan t) as (λ p. IsFit (replaced_by state t.buffer p).state) [
    | Err message ↦ failed_fits state message
    | Ok c ↦ elim (is_full (size_told t.buffer.told) (serial_told t.buffer.told) c.a c.b c.put) as (λ b. IsFit (cond b (fails state (Says BufferFull)) (search_finished state c.finish (edit_of t.buffer.name c.a c.b c.put))).state) [ true ↦ failed_fits state (Says BufferFull) | false ↦ mode_fits c.finish.mode ]
  ]

  permitted_fits : (d : Decision) (o : Outcome) → IsFit o.state → IsFit (permitted state d o).state
  permitted_fits Granted o h = h
  permitted_fits d o h = fit_none (permitted state d o).state refl

replacement_fits : (v : View) (c : Replacement) (n : Option ℕ) (typed : List ℕ) (stored : Bool) → v.session.state.mode ≡ Replacing → 0 < length v.session.state.old → has_all (without_all v.session.state.todo) ≡ false → IsFit (outcome v (Run (Replace c) n typed) stored).state
unfolding outcome
replacement_fits v c n typed stored mode some rest =
    permitted_fits v.session.state mode some rest (judged v (needs v (Run (Replace c) n typed))) (allowed v (Run (Replace c) n typed) stored)
    (replaces_fit v.session.state mode some rest (target v) (λ t. replace c (text_in t.buffer.full) (around_search v.session typed t)))

-- what the session of an act holds then
state_applied : (P : State → Type 0) (w : World) (id : ℕ) (o : Outcome) → P o.state → (y : Session) → find_session id (apply w id o).sessions ≡ Some y → P y.state
state_applied P w id o h y found = by o.effect refl
  where
    arranged : (s : Option Session) → option_map (λ x. session_arranged o (session_after o.effect x)) s ≡ Some y → P y.state
    arranged None q = cc
    arranged (Some x) q = (let r : session_arranged o (session_after o.effect x) ≡ y = cc in subst (λ (z : Session). P z.state) r h)

    stays : (q : (xs : List Session) → after_quit o.effect id xs ≡ xs) → P y.state
    stays q =
        arranged (find_session id w.sessions)
        (sym (ap (find_session id) (q (change_first (has_id id) (session_arranged o) (map (session_after o.effect) w.sessions))) ∙ find_after id o w.sessions) ∙ found)

    by : (f : Effect) → o.effect ≡ f → P y.state
    by Quit q =
        let gone : find_session id (apply w id o).sessions ≡ None =
        ap (λ f. find_session id (after_quit f id (change_first (has_id id) (session_arranged o) (map (session_after o.effect) w.sessions)))) q ∙ find_without id (change_first (has_id id) (session_arranged o) (map (session_after o.effect) w.sessions)) in
        cc
    by f q = stays (λ xs. ap (λ g. after_quit g id xs) q)

replacement_acted : (w : World) (id : ℕ) (state : State) (c : Replacement) (n : Option ℕ) (typed : List ℕ) (stored : Bool) (x y : Session) → find_session id w.sessions ≡ Some x → state.mode ≡ Replacing → 0 < length state.old → has_all (without_all state.todo) ≡ false
    → find_session id (act (with_state id (λ was. state) w) id (Run (Replace c) n typed) stored).sessions ≡ Some y → IsFit y.state
replacement_acted w id state c n typed stored x y found mode some rest stays =
    let v : View = begun_view (λ was. state) (view w x) in
    state_applied IsFit (with_state id (λ was. state) w) id (outcome v (Run (Replace c) n typed) stored) (replacement_fits v c n typed stored mode some rest) y
    (sym (ap (λ o. find_session id (applied (with_state id (λ was. state) w) id (option_map (λ z. outcome z (Run (Replace c) n typed) stored) o)).sessions) (seen_begun w id (λ was. state) x found)) ∙ stays)

-- of a replacement, where all further ones are to be done
pub replaced_fits : (w : World) (id : ℕ) (state : State) (b : ModeBefore) (byte_act : ByteAct) (stored : Bool) (x y : Session) → find_session id w.sessions ≡ Some x → is_replacement byte_act ≡ true → IsFit state → has_all state.todo ≡ true → has_all (without_all state.todo) ≡ false
    → find_session id (act (with_state id (λ was. deciding_state b byte_act state) w) id (model_act state b byte_act) stored).sessions ≡ Some y → IsFit y.state
replaced_fits w id state b (byte_acts.Replace last) stored x y found is fit all rest stays =
    let fits = fit all in replacement_acted w id state (replacement last) None state.input stored x y found fits.0 fits.1 rest stays
replaced_fits w id state b _ stored x y found is fit all rest stays = cc
