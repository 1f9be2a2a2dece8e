-- What an act of a session comes to, and that what is done is the act.
use Rattle.std.proofs.Common.{◌≡◌, ℕ, ◌<◌, ◌-◌, ◌==◌, ◌||◌, Bool, true, false, cond, List, [], length, map, Option, Some, None, Result, Ok, Err, refl, sym, ap, ◌∙◌, map-id}
use Rattle.std.specs.Prelude.{take, slice_get, slice_set}
use Rattle.std.specs.List.{position_or_len}
use Rattle.std.specs.Option.{option_map}
use Rattle.std.proofs.lemmas.Option.{get_or_from_slice_get}
use Rattle.mgs_model.specs.Access.{Directory}
use Rattle.mgs_model.specs.World.{find_session, has_id}
use Rattle.mgs_model.specs.World as model
use Rattle.mgs_model.specs.View.{view}
use Rattle.mgs_model.specs.Outcome as outcomes
use Rattle.mgs_model.specs.Acts.{asks, fails, outcome, owns, sets}
use Rattle.mgs_model.specs.Apply.{apply, change_first, outcome_in, is_search_mode, session_arranged}
use Rattle.mgs_model.specs.Plans.{acted_state, failed_state, setting}
use Rattle.mgs_model.specs.declared.session.Command.TheVariants.{Ask, Set}
use Rattle.mgs_model.specs.declared.session.Question.{Question}
use Rattle.mgs_model.specs.declared.session.Setting.{Setting}
use Rattle.mgs_model.specs.declared.session.Setting.TheVariants.{SetFillColumn, KeyboardQuit, StartMacro, EndMacro, CallMacro}
use Rattle.mgs_model.specs.declared.echo_text.Message.{Message}
use Rattle.mgs_model.specs.declared.echo_text.Message.TheVariants.{Says}
use Rattle.mgs_model.specs.declared.echo_text.Notice.TheVariants.{BadColumn, InMacro, NoArgument, NotInMacro, Quitting}
use Rattle.mgs_model.specs.declared.session.Kind.TheVariants.{Other}
use Rattle.mgs_model.proofs.Firsts.{position_or_len-map, written_first}
use Rattle.mgs_buffers.specs.MarkedBuffer.{MarkedBuffer}
use Rattle.mgs_session.specs.Sessions.{acted, asking, failed, filling, macro_ended, macro_given_up, macro_started}
use Rattle.mgs_session.specs.declared.Session.{Session}
use Rattle.mgs_plan.specs.Actions.{is_setting_done}
use Rattle.mgs_plan.specs.Setting.{session_set}
use Rattle.mgs_world.specs.Worlds.{id_after, idle, state_at, state_of, session_id, session_of, world_of}
use Rattle.mgs_world.proofs.Sessions.{session_some}
use Rattle.mgs_world.proofs.Owns.{at_rest, no_search_at_rest, state_asking, search_at_rest, search_kept}
use Rattle.mgs_world.proofs.Worlds.{same_world}
use Rattle.mgs_plan.proofs.Deeds.{failed_so, fresh_state}

pub session_known : (directory : Directory) (ks : List MarkedBuffer) (xs : List Session) (next : Option ℕ) (id at : ℕ) (h : Session) → at ≡ position_or_len (session_id id) xs → at < length xs → slice_get xs at ≡ Some h → find_session id (world_of directory ks xs next).sessions ≡ Some (session_of ks h)
session_known directory ks xs next id at h place within is =
    session_some directory ks xs next id at h place within (sym (get_or_from_slice_get xs at h h is))

-- what an act comes to, by the session that does it
pub outcome_answered : (directory : Directory) (ks : List MarkedBuffer) (xs : List Session) (next : Option ℕ) (id at : ℕ) (h : Session) (c : outcomes.Act) (stored : Bool) → at ≡ position_or_len (session_id id) xs → at < length xs → slice_get xs at ≡ Some h → outcome_in (world_of directory ks xs next) id c stored ≡ Some (outcome (view (world_of directory ks xs next) (session_of ks h)) c stored)
outcome_answered directory ks xs next id at h c stored place within is =
    let w = world_of directory ks xs next in
    ap (λ o. option_map (λ v. outcome v c stored) (option_map (view w) o)) (session_known directory ks xs next id at h place within is)

pub outcome_known : (directory : Directory) (ks : List MarkedBuffer) (xs : List Session) (next : Option ℕ) (id at : ℕ) (h : Session) (c : outcomes.Act) → at ≡ position_or_len (session_id id) xs → at < length xs → slice_get xs at ≡ Some h → outcome_in (world_of directory ks xs next) id c true ≡ Some (outcome (view (world_of directory ks xs next) (session_of ks h)) c true)
outcome_known directory ks xs next id at h c place within is = outcome_answered directory ks xs next id at h c true place within is

-- A SETTING

module _ (directory : Directory) (ks : List MarkedBuffer) (xs : List Session) (next : Option ℕ) (id at : ℕ) (h : Session) (place : at ≡ position_or_len (session_id id) xs) (within : at < length xs) (found : slice_get xs at ≡ Some h) (fresh : state_at at xs ≡ idle (state_at at xs)) where
  rests : state_of h.state ≡ idle (state_of h.state)
  rests = fresh_state xs at h found fresh

  kept : (session_of ks h).search ≡ cond (is_search_mode (state_of h.state).mode) (session_of ks h).search None
  kept = search_kept ks h rests

  failed_set : (message : Message) → world_of directory ks (slice_set xs at (failed message h)) next ≡ apply (world_of directory ks xs next) id (fails (state_of h.state) message)
  failed_set message = failed_so directory ks xs next id at h message place within found rests

  owned_so : (y : Session) (after : model.State) → session_of ks y ≡ session_arranged (owns after) (session_of ks h) → world_of directory ks (slice_set xs at y) next ≡ apply (world_of directory ks xs next) id (owns after)
  owned_so y after does =
      let f = session_arranged (owns after) in
      same_world directory _ _ _ _ (id_after next) refl
      (written_first (session_of ks) (has_id id) f xs at h y (place ∙ sym (position_or_len-map (session_of ks) (has_id id) xs)) within (sym (get_or_from_slice_get xs at h h found)) does
      ∙ ap (change_first (has_id id) f) (sym (map-id (map (session_of ks) xs))))

  -- a command of no kind was done, which set this
  acted_so : (y : Session) (f : model.State → model.State) → ((state : model.State) → f (record (idle state) { kind = Other }) ≡ f (acted_state (idle state)))
      → session_of ks y ≡ record (session_of ks h) { state = f (record (state_of h.state) { kind = Other }) }
      → Path (Option model.Search) (session_of ks h).search (cond (is_search_mode (f (acted_state (state_of h.state))).mode) (session_of ks h).search None)
      → world_of directory ks (slice_set xs at y) next ≡ apply (world_of directory ks xs next) id (owns (f (acted_state (state_of h.state))))
  acted_so y f same does still =
      owned_so y (f (acted_state (state_of h.state)))
      (does ∙ (λ i. record (session_of ks h) { state = at_rest (λ state. f (record state { kind = Other })) (λ state. f (acted_state state)) same (state_of h.state) rests i; search = still i }))

  -- a command that is done or fails, by what the session records
  recorded_so : (y : Session) (f : model.State → model.State) (message : Message)
      → world_of directory ks (slice_set xs at y) next ≡ apply (world_of directory ks xs next) id (owns (f (acted_state (state_of h.state))))
      → (c : Bool) → world_of directory ks (slice_set xs at (cond c y (failed message h))) next ≡ apply (world_of directory ks xs next) id (sets (state_of h.state) (cond c (Ok (f (acted_state (state_of h.state)))) (Err message)))
  recorded_so y f message done true = done
  recorded_so y f message done false = failed_set message

  started_so : (c : Bool) → world_of directory ks (slice_set xs at (cond c (failed (Says InMacro) h) (macro_started h))) next ≡ apply (world_of directory ks xs next) id (sets (state_of h.state) (cond c (Err (Says InMacro)) (Ok (record (acted_state (state_of h.state)) { recording = true; macro = [] }))))
  started_so true = failed_set (Says InMacro)
  started_so false = acted_so (macro_started h) (λ state. record state { recording = true; macro = [] }) (λ state. refl) refl kept

  -- nothing ends while a macro plays
  ended_so : (c : Bool)
      → (let ends : Result model.State Message = cond c (Ok (record (acted_state (state_of h.state)) { recording = false; macro = take (length (state_of h.state).macro - 2) (state_of h.state).macro })) (Err (Says NotInMacro)) in world_of directory ks (slice_set xs at (cond c (macro_ended h) (failed (Says NotInMacro) h))) next ≡ apply (world_of directory ks xs next) id (sets (state_of h.state) ends))
      → (p : Bool)
      → (let ends : Result model.State Message = cond c (Ok (record (acted_state (state_of h.state)) { recording = false; macro = take (length (state_of h.state).macro - 2) (state_of h.state).macro })) (Err (Says NotInMacro)) in world_of directory ks (slice_set xs at (cond p (failed (Says InMacro) h) (cond c (macro_ended h) (failed (Says NotInMacro) h)))) next ≡ apply (world_of directory ks xs next) id (sets (state_of h.state) (cond p (Err (Says InMacro)) ends)))
  ended_so c done true = failed_set (Says InMacro)
  ended_so c done false = done

  set_so : (s : Setting) (n : Option ℕ) → is_setting_done s ≡ true → world_of directory ks (slice_set xs at (session_set s n h)) next ≡ apply (world_of directory ks xs next) id (sets (state_of h.state) (setting s (acted_state (state_of h.state)) n))
  set_so SetFillColumn None here = failed_set (Says NoArgument)
  set_so SetFillColumn (Some n) here = by (n == 0)
    where
      by : (b : Bool) → world_of directory ks (slice_set xs at (cond b (failed (Says BadColumn) h) (filling n (acted Other h)))) next ≡ apply (world_of directory ks xs next) id (sets (state_of h.state) (cond b (Err (Says BadColumn)) (Ok (record (acted_state (state_of h.state)) { fill = n }))))
      by true = failed_set (Says BadColumn)
      by false = acted_so (filling n (acted Other h)) (λ state. record state { fill = n }) (λ state. refl) refl kept
  set_so KeyboardQuit n here =
      let after : model.State = record (failed_state (Says Quitting) (state_of h.state)) { recording = false; macro = cond h.state.recorder.recording [] h.state.recorder.macro } in
      owned_so (macro_given_up (failed (Says Quitting) h)) after refl
  set_so StartMacro n here = started_so (h.state.recorder.recording || h.state.player.playing)
  set_so EndMacro n here =
      let ends : model.State → model.State = λ state. record state { recording = false; macro = take (length state.macro - 2) state.macro } in
      ended_so h.state.recorder.recording (recorded_so (macro_ended h) ends (Says NotInMacro) (acted_so (macro_ended h) ends (λ state. refl) refl kept) h.state.recorder.recording) h.state.player.playing
  set_so CallMacro n here = cc

  pub set_done : (s : Setting) (n : Option ℕ) (stored : Bool) → is_setting_done s ≡ true → world_of directory ks (slice_set xs at (session_set s n h)) next ≡ apply (world_of directory ks xs next) id (outcome (view (world_of directory ks xs next) (session_of ks h)) (outcomes.Run (Set s) n []) stored)
  unfolding outcome
  set_done s n stored here = set_so s n here

  -- A QUESTION

  pub asked_done : (c : Question) (n : Option ℕ) (stored : Bool) → world_of directory ks (slice_set xs at (asking c n h)) next ≡ apply (world_of directory ks xs next) id (outcome (view (world_of directory ks xs next) (session_of ks h)) (outcomes.Run (Ask c) n []) stored)
  unfolding outcome
  asked_done c n stored =
      owned_so (asking c n h) (asks c n (state_of h.state)) (λ i. record (session_of ks h) { state = state_asking c n h (search_at_rest h.state rests) rests i; search = no_search_at_rest ks h rests i })
