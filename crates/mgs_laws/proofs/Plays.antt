-- What a macro plays asks no store: whatever the store would answer, an act of a byte that is played does the same, and saves nothing.
use Rattle.std.proofs.Common.{◌≡◌, ℕ, Bool, true, cond, List, [], Option, Some, None, refl, sym, ap, ◌∙◌, append-nil}
use Rattle.std.specs.Prelude.{not}
use Rattle.std.specs.List.{flat_map}
use Rattle.std.specs.Option.{option_map}
use Rattle.mgs_model.specs.World.{World, Session, State, find_session}
use Rattle.mgs_model.specs.View.{View, view, text_in}
use Rattle.mgs_model.specs.Outcome.{Act, Unbound, Run, Outcome, Save, Keep_kill, Stay}
use Rattle.mgs_model.specs.Plans.{acted_state}
use Rattle.mgs_model.specs.Acts.{Target, allowed, fails, has_file, judged, needs, outcome, permitted, saves, target}
use Rattle.mgs_model.specs.Apply.{act, applied}
use Rattle.mgs_model.specs.Events.{act_effects, effect_in, saved_by, with_state}
use Rattle.mgs_model.specs.declared.echo_text.Message.TheVariants.{Says, Wrote}
use Rattle.mgs_model.specs.declared.echo_text.Notice.TheVariants.{InMacro, NoFile, SaveFailed}
use Rattle.mgs_model.specs.declared.session.Command.{Command}
use Rattle.mgs_model.specs.declared.session.Command.TheVariants.{SaveBuffer}
use Rattle.mgs_model.specs.declared.entry.Decision.{Decision}
use Rattle.mgs_model.specs.declared.entry.Decision.TheVariants.{Granted, DeniedBy, NotGranted}
use Rattle.mgs_laws.proofs.LeftToDo.{seen_begun}
use Rattle.mgs_laws.proofs.Saves.{act_saves_none}
use Rattle.mgs_laws.proofs.Turning.{begun_view}

-- a save is refused
saves_refused : (state : State) (t : Target) (stored : Bool) → state.playing ≡ true → saves state (Some t) stored ≡ fails state (Says InMacro)
saves_refused state t stored playing =
    let written : Outcome = record { state = record (acted_state state) { echo = Wrote t.buffer.name }; kill = Keep_kill; arrange = Stay; effect = Save t.buffer.name (text_in t.buffer.full) } in
    ap (λ (b : Bool). cond b (fails state (Says InMacro)) (cond (not (has_file t.buffer.told)) (fails state (Says NoFile)) (cond (not stored) (fails state (Says SaveFailed)) written))) playing

saves_alike : (state : State) (o : Option Target) (s t : Bool) → state.playing ≡ true → saves state o s ≡ saves state o t
saves_alike state None s t playing = refl
saves_alike state (Some a) s t playing = saves_refused state a s playing ∙ sym (saves_refused state a t playing)

command_alike : (v : View) (c : Command) (n : Option ℕ) (typed : List ℕ) (s t : Bool) → v.session.state.playing ≡ true → allowed v (Run c n typed) s ≡ allowed v (Run c n typed) t
command_alike v SaveBuffer n typed s t playing = saves_alike v.session.state (target v) s t playing
command_alike v _ n typed s t playing = refl

allowed_alike : (v : View) (c : Act) (s t : Bool) → v.session.state.playing ≡ true → allowed v c s ≡ allowed v c t
allowed_alike v Unbound s t playing = refl
allowed_alike v (Run c n typed) s t playing = command_alike v c n typed s t playing

outcome_alike : (v : View) (c : Act) (s t : Bool) → v.session.state.playing ≡ true → outcome v c s ≡ outcome v c t
unfolding outcome
outcome_alike v c s t playing = ap (permitted v.session.state (judged v (needs v c))) (allowed_alike v c s t playing)

-- an act of a session that plays
module _ (w : World) (id : ℕ) (state : State) (x : Session) (found : find_session id w.sessions ≡ Some x) (playing : state.playing ≡ true) where
  pub act_alike : (c : Act) (s t : Bool) → act (with_state id (λ old. state) w) id c s ≡ act (with_state id (λ old. state) w) id c t
  act_alike c s t =
      let v : World = with_state id (λ old. state) w in
      let z : View = begun_view (λ old. state) (view w x) in
      ap (λ o. applied v id (option_map (λ (y : View). outcome y c s) o)) (seen_begun w id (λ old. state) x found)
      ∙ ap (λ (o : Outcome). applied v id (Some o)) (outcome_alike z c s t playing)
      ∙ sym (ap (λ o. applied v id (option_map (λ (y : View). outcome y c t) o)) (seen_begun w id (λ old. state) x found))

  played_none : (o : Option Target) (d : Decision) (stored : Bool) → saved_by (permitted state d (saves state o stored)).effect ≡ []
  played_none None Granted stored = refl
  played_none (Some t) Granted stored = ap (λ (o : Outcome). saved_by o.effect) (saves_refused state t stored playing)
  played_none o (DeniedBy n right) stored = refl
  played_none o (NotGranted right) stored = refl

  outcome_none : (n : Option ℕ) (typed : List ℕ) (stored : Bool) → saved_by (outcome (begun_view (λ old. state) (view w x)) (Run SaveBuffer n typed) stored).effect ≡ []
  unfolding outcome
  outcome_none n typed stored =
      let z : View = begun_view (λ old. state) (view w x) in
      played_none (target z) (judged z (needs z (Run SaveBuffer n typed))) stored

  save_none : (n : Option ℕ) (typed : List ℕ) (stored : Bool) → flat_map saved_by (act_effects (with_state id (λ old. state) w) id (Run SaveBuffer n typed) stored) ≡ []
  save_none n typed stored =
      let z : View = begun_view (λ old. state) (view w x) in
      ap (λ o. flat_map saved_by (effect_in (option_map (λ (y : View). outcome y (Run SaveBuffer n typed) stored) o))) (seen_begun w id (λ old. state) x found)
      ∙ append-nil (saved_by (outcome z (Run SaveBuffer n typed) stored).effect)
      ∙ outcome_none n typed stored

  command_none : (c : Command) (n : Option ℕ) (typed : List ℕ) (stored : Bool) → flat_map saved_by (act_effects (with_state id (λ old. state) w) id (Run c n typed) stored) ≡ []
  command_none SaveBuffer n typed stored = save_none n typed stored
  command_none c n typed stored = act_saves_none (with_state id (λ old. state) w) id (Run c n typed) stored refl

  pub act_saves_nothing : (c : Act) (stored : Bool) → flat_map saved_by (act_effects (with_state id (λ old. state) w) id c stored) ≡ []
  act_saves_nothing Unbound stored = act_saves_none (with_state id (λ old. state) w) id Unbound stored refl
  act_saves_nothing (Run c n typed) stored = command_none c n typed stored
