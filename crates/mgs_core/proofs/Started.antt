-- An act that starts a search: it goes by no search that was there before.
use Rattle.std.proofs.Common.{◌≡◌, ℕ, Bool, true, cond, List, [], ◌∷◌, map, map-id, Option, Some, None, refl, sym, ap, subst, ◌∙◌}
use Rattle.std.specs.Option.{option_map}
use Rattle.mgs_model.specs.World.{World, State, Search, Session, find_session, has_id}
use Rattle.mgs_model.specs.View.{View, view, text_in, size_told}
use Rattle.mgs_model.specs.Outcome.{Act, Run, Outcome, KillPlan, Keep_kill, Arrange, Adjust, Stay, Keep_position, Keep_mark, Begin, Effect, No_effect}
use Rattle.mgs_model.specs.Plans.{failed_state}
use Rattle.mgs_model.specs.SearchCommands.{Keep_mode, SearchFinish, seek}
use Rattle.mgs_model.specs.Acts.{Request, Target, acts_at, allowed, around_search, judged, needs, or_else, outcome, permitted, request_judged, search_finished_state, seeks, target}
use Rattle.mgs_model.specs.Apply.{act, applied, apply, change_first, outcome_in, is_search_mode, session_after, session_arranged}
use Rattle.mgs_model.specs.Events.{act_effects, effect_in, state_set, with_state}
use Rattle.mgs_model.specs.declared.entry.Decision.{Decision}
use Rattle.mgs_model.specs.declared.entry.Decision.TheVariants.{Granted}
use Rattle.mgs_model.specs.declared.echo_text.Message.TheVariants.{Says, Denied}
use Rattle.mgs_model.specs.declared.echo_text.Notice.TheVariants.{NoBuffer}
use Rattle.mgs_model.specs.declared.search.Direction.{Direction}
use Rattle.mgs_model.specs.declared.session.Command.TheVariants.{Seek}
use Rattle.mgs_model.specs.declared.session.Seeking.TheVariants.{StartSearch}
use Rattle.mgs_model.proofs.Firsts.{change_first_found, change_twice, find-change_first}
use Rattle.mgs_births.specs.Reports.{Report, Did, act_refusals, refusals, refusals_in, refused_first}
use Rattle.mgs_births.specs.Telling.{StoreTold, Tells}
use Rattle.mgs_plan.specs.declared.key_act.KeyAct.{KeyAct}
use Rattle.mgs_plan.specs.declared.key_act.KeyAct.TheVariants as acts
use Rattle.mgs_plan.specs.Actions.{act_of}
use Rattle.mgs_seek.specs.Beginning.{searching_state}
use Rattle.mgs_act.specs.Doing.{ActedBy}
use Rattle.mgs_core.specs.KeyActs.{started_by, started_state, started_world}

-- THE ACT, by a session that holds this and has these positions of a search
module _ (w : World) (id : ℕ) (o : State) (d : Direction) (n : Option ℕ) (x : Session) (found : find_session id w.sessions ≡ Some x) (stored : Bool) where
  abbrev c : Act
  c = Run (Seek (StartSearch d)) n []

  -- with this record it is decided
  abbrev state : State
  state = searching_state d o

  abbrev put : Option Search → Session → Session
  put s y = record y { search = s; state = state }

  abbrev world : Option Search → World
  world s = record w { sessions = change_first (has_id id) (put s) w.sessions }

  abbrev seen : Option Search → View
  seen s = view (world s) (put s x)

  judged_same : (s : Option Search) (rs : List Request) → judged (seen s) rs ≡ judged (seen None) rs
  judged_same s [] = refl
  judged_same s (r ∷ rs) = ap (λ (e : Decision). or_else (request_judged (seen None) r) e) (judged_same s rs)

  outcome_same : (s : Option Search) → outcome (seen s) c stored ≡ outcome (seen None) c stored
  unfolding outcome
  outcome_same s = ap (λ (e : Decision). permitted state e (allowed (seen None) c stored)) (judged_same s (needs (seen None) c))

  outcome_there : (s : Option Search) → outcome_in (world s) id c stored ≡ Some (outcome (seen None) c stored)
  outcome_there s =
      ap (λ (o : Option Session). option_map (λ (v : View). outcome v c stored) (option_map (view (world s)) o)) (find-change_first (has_id id) (put s) (λ y. refl) w.sessions ∙ ap (option_map (put s)) found)
      ∙ ap (λ (o : Outcome). Some o) (outcome_same s)

  -- an outcome that leaves a session as if it had not searched
  abbrev IsBlind : Outcome → Type 0
  IsBlind o = (s : Option Search) → apply (world s) id o ≡ apply (world None) id o

  blind : (after : State) (kill : KillPlan) (arrange : Arrange) → (let o : Outcome = record { state = after; kill = kill; arrange = arrange; effect = No_effect } in (s : Option Search) (y : Session) → session_arranged o (put s y) ≡ session_arranged o (put None y)) → (let o : Outcome = record { state = after; kill = kill; arrange = arrange; effect = No_effect } in IsBlind o)
  blind after kill arrange same s =
      let o : Outcome = record { state = after; kill = kill; arrange = arrange; effect = No_effect } in
      let once : (r : Option Search) → change_first (has_id id) (session_arranged o) (map (session_after No_effect) (world r).sessions) ≡ change_first (has_id id) (λ y. session_arranged o (put None y)) w.sessions =
      λ r.
      ap (change_first (has_id id) (session_arranged o)) (map-id (world r).sessions)
      ∙ change_twice (has_id id) (session_arranged o) (put r) (λ y. session_arranged o (put None y)) (λ y. refl) (same r) w.sessions
      in ap (λ (ys : List Session). record w { sessions = ys }) (once s ∙ sym (once None))

  blind_seeks : (t : Option Target) → IsBlind (seeks state t (λ (t : Target). seek (StartSearch d) (text_in t.buffer.full) (around_search (seen None).session [] t)))
  blind_seeks None = blind (failed_state (Says NoBuffer) state) Keep_kill Stay (λ s y. refl)
  blind_seeks (Some t) =
      let place : ℕ = acts_at t.window.positions (size_told t.buffer.told) in
      let f : SearchFinish = record { point = Keep_position; sought = Begin t.buffer.name place place; mode = Keep_mode } in
      blind (search_finished_state f state) Keep_kill (Adjust Keep_position Keep_mark Keep_position None f.sought) (λ s y. refl)

  blind_permitted : (e : Decision) → IsBlind (permitted state e (allowed (seen None) c stored))
  blind_permitted Granted = blind_seeks (target (seen None))
  blind_permitted e = blind (failed_state (Denied e) state) Keep_kill Stay (λ s y. refl)

  blind_outcome : IsBlind (outcome (seen None) c stored)
  unfolding outcome
  blind_outcome = blind_permitted (judged (seen None) (needs (seen None) c))

  act_there : (s : Option Search) → act (world s) id c stored ≡ act (world None) id c stored
  act_there s = ap (applied (world s) id) (outcome_there s) ∙ blind_outcome s ∙ sym (ap (applied (world None) id) (outcome_there None))

  effects_there : (s : Option Search) → act_effects (world s) id c stored ≡ act_effects (world None) id c stored
  effects_there s = ap effect_in (outcome_there s ∙ sym (outcome_there None))

  -- the two worlds in which it may be decided
  at_once : with_state id (λ was. searching_state d o) w ≡ world x.search
  at_once = ap (λ (ys : List Session). record w { sessions = ys }) (change_first_found (has_id id) (state_set (λ was. searching_state d o)) (put x.search) x w.sessions found refl)

  then_put : with_state id (searching_state d) (with_state id (λ was. o) w) ≡ world (cond (is_search_mode o.mode) x.search None)
  then_put =
      ap (λ (ys : List Session). record w { sessions = ys })
      (change_twice (has_id id) (state_set (searching_state d)) (state_set (λ was. o)) (λ y. state_set (searching_state d) (state_set (λ was. o) y)) (λ y. refl) (λ y. refl) w.sessions
      ∙ change_first_found (has_id id) (λ y. state_set (searching_state d) (state_set (λ was. o) y)) (put (cond (is_search_mode o.mode) x.search None)) x w.sessions found refl)

  started_so : {X : Type 0} (f : World → X) → ((s : Option Search) → f (world s) ≡ f (world None)) → f (with_state id (searching_state d) (with_state id (λ was. o) w)) ≡ f (with_state id (λ was. searching_state d o) w)
  started_so f same = ap f then_put ∙ same (cond (is_search_mode o.mode) x.search None) ∙ sym (same x.search) ∙ sym (ap f at_once)

  pub started_act : act (with_state id (searching_state d) (with_state id (λ was. o) w)) id (Run (Seek (StartSearch d)) n []) stored ≡ act (with_state id (λ was. searching_state d o) w) id (Run (Seek (StartSearch d)) n []) stored
  started_act = started_so (λ (v : World). act v id c stored) act_there

  pub started_effects : act_effects (with_state id (searching_state d) (with_state id (λ was. o) w)) id (Run (Seek (StartSearch d)) n []) stored ≡ act_effects (with_state id (λ was. searching_state d o) w) id (Run (Seek (StartSearch d)) n []) stored
  started_effects = started_so (λ (v : World). act_effects v id c stored) effects_there

  -- and what is denied to it
  refusals_same : (s : Option Search) (rs : List Request) → refusals (seen s) rs ≡ refusals (seen None) rs
  refusals_same s [] = refl
  refusals_same s (r ∷ rs) = ap (λ (qs : List Report). refused_first r.buffer (request_judged (seen None) r) qs) (refusals_same s rs)

  refusals_there : (s : Option Search) → act_refusals (world s) id c ≡ refusals (seen None) (needs (seen None) c)
  refusals_there s =
      ap (λ (o : Option Session). refusals_in (option_map (view (world s)) o) c) (find-change_first (has_id id) (put s) (λ y. refl) w.sessions ∙ ap (option_map (put s)) found)
      ∙ refusals_same s (needs (seen None) c)

  pub started_refusals : act_refusals (with_state id (searching_state d) (with_state id (λ was. o) w)) id (Run (Seek (StartSearch d)) n []) ≡ act_refusals (with_state id (λ was. searching_state d o) w) id (Run (Seek (StartSearch d)) n [])
  started_refusals = started_so (λ (v : World). act_refusals v id c) (λ s. refusals_there s ∙ sym (refusals_there None))

-- AN ACT OF A KEY, which may start one: it is decided with the record that it begins from
abbrev pub IsBegun : World → ℕ → State → KeyAct → World → StoreTold → StoreTold → Type 0
IsBegun w id o a new before after = ActedBy (started_world (started_by a) id (with_state id (λ was. o) w)) new before after id (act_of a) → ActedBy (with_state id (λ was. started_state (started_by a) o) w) new before after id (act_of a)

pub begun_act : (w : World) (id : ℕ) (o : State) (a : KeyAct) (x : Session) (new : World) (before after : StoreTold) → find_session id w.sessions ≡ Some x → IsBegun w id o a new before after
begun_act w id o (acts.Run (Seek (StartSearch d)) n) x new before after found did = record {
  stored = did.stored;
  world = did.world ∙ started_act w id o d n x found did.stored;
  fault = did.fault;
  tells = subst (λ (es : List Effect). Tells (map Did es) before after) (started_effects w id o d n x found did.stored) did.tells;
}
begun_act w id o _ x new before after found did = did

pub begun_refusals : (w : World) (id : ℕ) (o : State) (a : KeyAct) (x : Session) → find_session id w.sessions ≡ Some x
    → act_refusals (started_world (started_by a) id (with_state id (λ was. o) w)) id (act_of a) ≡ act_refusals (with_state id (λ was. started_state (started_by a) o) w) id (act_of a)
begun_refusals w id o (acts.Run (Seek (StartSearch d)) n) x found = started_refusals w id o d n x found true
begun_refusals w id o _ x found = refl
