-- What a turn makes of a session by itself: the next of what it has to do.
use Rattle.std.proofs.Common.{◌≡◌, ℕ, ◌+◌, ◌<◌, Bool, true, false, List, [], ◌∷◌, Option, Some, None, refl, sym, ap, ◌∙◌, arith}
use Rattle.std.specs.Prelude.{not}
use Rattle.mgs_model.specs.Access.{Directory}
use Rattle.mgs_model.specs.World.{Todo, Typed, Played, Replace_all, Play}
use Rattle.mgs_model.specs.World as model
use Rattle.mgs_model.specs.View.{View}
use Rattle.mgs_model.specs.Outcome.{Run}
use Rattle.mgs_model.specs.Acts.{without_all}
use Rattle.mgs_model.specs.Events.{refused_state}
use Rattle.mgs_model.specs.declared.session.Replacement.TheVariants.{ReplaceMatch}
use Rattle.mgs_model.specs.declared.session.Command.TheVariants as commands
use Rattle.mgs_model.specs.declared.session.Mode.TheVariants.{Replacing}
use Rattle.mgs_model.specs.Plans.{failed_state}
use Rattle.mgs_model.specs.Turns.{Turn, Keep, Do, byte_turn, first_played, todo_turn}
use Rattle.mgs_model.specs.declared.echo_text.Message.TheVariants.{Says}
use Rattle.mgs_model.specs.declared.echo_text.Notice.TheVariants.{Silent}
use Rattle.mgs_model.specs.declared.session.Kind.{Kind}
use Rattle.mgs_model.specs.declared.session.Kind.TheVariants.{Other}
use Rattle.mgs_buffers.specs.MarkedBuffer.{MarkedBuffer}
use Rattle.mgs_mini.specs.Typing.{PromptInput}
use Rattle.mgs_session.specs.declared.search.Aim.TheVariants.{Find, Replace}
use Rattle.mgs_session.specs.declared.Session.{Session}
use Rattle.mgs_session.specs.declared.search.Search.{Search}
use Rattle.mgs_session.specs.declared.player.Pending.TheVariants as tasks
use Rattle.mgs_session.specs.Playing.{IsNext, Playing, are_played}
use Rattle.mgs_session.specs.Sessions.{acted, playing_as}
use Rattle.mgs_world.specs.Worlds.{aim_mode, mode_in, state_of}
use Rattle.mgs_core.specs.declared.byte_acts.ByteAct.{ByteAct}
use Rattle.mgs_core.specs.declared.byte_acts.ByteAct.TheVariants as byte_acts
use Rattle.mgs_core.specs.declared.byte_acts.ModeBefore.{ModeBefore}
use Rattle.mgs_core.specs.declared.byte_acts.ModeBefore.TheVariants as befores
use Rattle.mgs_core.specs.declared.key_byte.ByteStep.{ByteStep}
use Rattle.mgs_core.specs.declared.key_byte.ByteStep.TheVariants.{Kept, Failed, Ends, Acts}
use Rattle.mgs_core.specs.Prompted.{state_turn}
use Rattle.mgs_core.specs.ByteActs.{IsReady, before_turn, model_act, deciding_state, finds, is_replacing, refused}
use Rattle.mgs_core.specs.ByteSteps.{IsByteStep, IsFirstStep, IsLeft, IsStep, IsTurnStep, SeesNames, TurnLeft, replaces}
use Rattle.mgs_core.specs.KeyActs.{started_by, started_state}
use Rattle.mgs_core.proofs.Begun.{search_still}
use Rattle.mgs_core.specs.Turns.{IsFit, IsWithin, has_all, is_played, is_quiet, weight}
use Rattle.mgs_core.proofs.Stepped.{step_without_act, fit_empty, none_all}
use Rattle.mgs_world.proofs.Marks.{not_both}

pub played_of : (todo : List Todo) → are_played todo ≡ true → is_played todo ≡ true
played_of [] h = refl
played_of (Played byte ∷ todo) h = played_of todo h
played_of _ h = cc

-- a session in this mode replaces
pub mode_replacing : (s : Option Search) (p : Option PromptInput) → mode_in s p ≡ Replacing → is_replacing s ≡ true
mode_replacing None None e = cc
mode_replacing None (Some p) e = cc
mode_replacing (Some s) p e = (elim s.aim as (λ a. aim_mode a ≡ Replacing → not (finds a) ≡ true) [ Find f ↦ λ h. cc | Replace r ↦ λ h. refl ]) e

-- THE KIND OF THE LAST COMMAND is no part of what an act is
ready_other : (byte_act : ByteAct) (s : Option Search) (o : model.State) → IsReady byte_act s o → IsReady byte_act s (record o { kind = Other })
ready_other (byte_acts.Act a) s o h = ap (λ (p : model.State). record p { kind = Other }) h
ready_other (byte_acts.Answer n) s o h = ap (λ (p : model.State). record p { kind = Other }) h
ready_other byte_acts.StartReplacing s o h = ap (λ (p : model.State). record p { kind = Other }) h
ready_other _ s o h = h

byte_act_other : (b : ModeBefore) (byte_act : ByteAct) (o : model.State) → record (deciding_state b byte_act o) { kind = Other } ≡ deciding_state b byte_act (record o { kind = Other })
byte_act_other b (byte_acts.Act a) o = elim (started_by a) as (λ d. record (started_state d o) { kind = Other } ≡ started_state d (record o { kind = Other })) [ None ↦ refl | Some d ↦ refl ]
byte_act_other b _ o = refl

-- THE FIRST BYTE of a play

module _ (d : Directory) (ks : List MarkedBuffer) (state : model.State) (x y new : Session) (byte : ℕ) (b : ModeBefore) (plays : x.state.player.playing ≡ true) (all : are_played x.state.player.todo ≡ true) where
  at_most : (todo : List Todo) → IsLeft x.state.player todo → IsWithin (1048577 + weight 1048576 x.state.player.todo) todo
  at_most todo left = left.played plays (weight 1048576 x.state.player.todo) (omega arith, played_of x.state.player.todo all)

  pub first_kept : (p : Playing) → IsByteStep d ks x y byte b Kept → p ≡ record y.state.player { todo = Play ∷ y.state.player.todo } → new ≡ playing_as p y → IsFirstStep d ks state x new byte b Kept
  first_kept p s begins is =
      let within = at_most y.state.player.todo s.left in
      rw (is, begins) (record {
        state = ap (playing_as (record y.state.player { todo = Play ∷ y.state.player.todo })) s.state;
        stays = s.stays;
        turn = λ v sees. ap (first_played state) (s.turn v sees);
        left = (omega (arith, within.0), within.1);
        fit = s.fit;
      })

  pub first_acts : (byte_act : ByteAct) → IsByteStep d ks x y byte b (Acts byte_act) → new ≡ acted Other y → IsFirstStep d ks state x new byte b (Acts byte_act)
  first_acts byte_act s is =
      let within = at_most y.state.player.todo s.left in
      rw is (record {
        state = ap (acted Other) s.state;
        stays = s.stays;
        ready = ready_other byte_act y.state.search (state_of y.state) s.ready;
        here = s.here;
        turn = λ v sees. ap (first_played state) (s.turn v sees) ∙ ap (λ (o : model.State). Do o (model_act (state_of y.state) b byte_act)) (byte_act_other b byte_act (state_of y.state));
        playing = λ e. s.playing plays;
        typed = λ e. cc;
        left = (omega (arith, within.0), within.1);
        again = s.again;
        search = s.search;
        fit = s.fit;
        begins = s.begins;
        further = s.further;
      })

  -- what is neither kept nor an act
  pub first_other : (step : ByteStep) → (step ≡ Kept → ⊥) → ((byte_act : ByteAct) → step ≡ Acts byte_act → ⊥) → IsByteStep d ks x new byte b step → IsFirstStep d ks state x new byte b step
  first_other Kept none acts s = absurd (none refl)
  first_other Failed none acts s = record {
    state = s.state;
    stays = s.stays;
    before = record s.before { kind = Other };
    act = s.act;
    message = s.message;
    turn = λ v sees. ap (first_played state) (s.turn v sees);
    playing = s.playing ∙ plays;
    fails = s.fails;
    breaks = s.breaks;
    quiet = s.quiet;
    told = s.told ∙ ap (λ (k : Kind). record (failed_state s.message s.before) { kind = k }) (s.breaks s.before.kind ∙ sym (s.breaks Other));
  }
  first_other Ends none acts s = not_both x.state.player.playing plays s.typed
  first_other (Acts byte_act) none acts s = absurd (acts byte_act refl)

-- A TURN

step_from : (Sees : View → Type 0) (comes mine : View → Turn) (a p : Bool) (Left Mine : List Todo → Type 0) (q : Playing) (x new : Session) (b : ModeBefore) → ((v : View) → mine v ≡ comes v) → p ≡ a → ((todo : List Todo) → Left todo → Mine todo) → (step : ByteStep) → IsStep Sees comes a Left (playing_as q x) new b step → IsStep Sees mine p Mine x new b step
step_from Sees comes mine a p Left Mine q x new b same is less (Acts byte_act) s = record {
  state = s.state;
  stays = s.stays;
  ready = s.ready;
  here = s.here;
  turn = λ v sees. same v ∙ s.turn v sees;
  playing = λ e. s.playing (sym is ∙ e);
  typed = λ e. s.typed (sym is ∙ e);
  left = less new.state.player.todo s.left;
  again = λ wants. ap (λ (o : model.State). record o { playing = x.state.player.playing }) (s.again wants);
  search = s.search;
  fit = s.fit;
  begins = s.begins;
  further = s.further;
}
step_from Sees comes mine a p Left Mine q x new b same is less step s = step_without_act Sees comes mine a p Left Mine (record x.state { player = q }) x new b b same is less (λ stays. stays) step (λ byte_act e. cc) s

-- where no further replacements are to be done
below : (r : Bool) (old new : List Todo) → has_all old ≡ false → is_played new ≡ true → weight 1048576 new < weight 1048576 old → TurnLeft r old new
below r old new none played less = record { played = played; less = λ e. less; same = λ e. not_both (has_all old) e none }

module _ (d : Directory) (ks : List MarkedBuffer) (x y new : Session) (taken : y ≡ playing_as y.state.player x) where
  abbrev mine : View → Turn
  mine v = todo_turn v (state_of x.state) x.state.player.todo

  abbrev comes_of : (byte : ℕ) → View → Turn
  comes_of byte v = state_turn v (playing_as y.state.player x).state byte

  -- what comes of a byte, whether it was typed or a macro's
  byte_comes : (byte : ℕ) (playing : Bool) (v : View) → y.state.player.playing ≡ playing → byte_turn v (record (state_of x.state) { echo = Says Silent; playing = playing; todo = y.state.player.todo }) byte (mode_in x.state.search x.state.prompt) ≡ comes_of byte v
  byte_comes byte playing v is = sym (ap (λ (b : Bool). byte_turn v (record (state_of x.state) { echo = Says Silent; playing = b; todo = y.state.player.todo }) byte (mode_in x.state.search x.state.prompt)) is)

  pub typed_turn : (byte : ℕ) (b : ModeBefore) (step : ByteStep) → IsNext (tasks.Typed byte) x.state.player y.state.player → IsByteStep d ks y new byte b step → IsTurnStep d ks x new b step
  typed_turn byte b step next s =
      step_from (SeesNames d ks x.user) (comes_of byte) mine y.state.player.playing (is_played x.state.player.todo) (IsLeft y.state.player) (TurnLeft (replaces step) x.state.player.todo) y.state.player x new b
      (λ v. ap (todo_turn v (state_of x.state)) next.todo ∙ byte_comes byte false v next.playing)
      (ap is_played next.todo ∙ sym next.playing)
      (λ todo left. let within = left.typed next.playing in let is = ap (weight 1048576) next.todo in below (replaces step) x.state.player.todo todo (ap has_all next.todo ∙ ap has_all next.taken) within.1 (omega (arith, within.0, is)))
      step (rw taken at s)

  pub played_turn : (byte : ℕ) (b : ModeBefore) (step : ByteStep) → IsNext (tasks.Played byte) x.state.player y.state.player → IsByteStep d ks y new byte b step → IsTurnStep d ks x new b step
  played_turn byte b step next s =
      let all : is_played y.state.player.todo ≡ true = played_of y.state.player.todo next.taken in
      step_from (SeesNames d ks x.user) (comes_of byte) mine y.state.player.playing (is_played x.state.player.todo) (IsLeft y.state.player) (TurnLeft (replaces step) x.state.player.todo) y.state.player x new b
      (λ v. ap (todo_turn v (state_of x.state)) next.todo ∙ byte_comes byte true v next.playing)
      (ap is_played next.todo ∙ all ∙ sym next.playing)
      (λ todo left. let within = left.played next.playing (weight 1048576 y.state.player.todo) (omega arith, all) in let is = ap (weight 1048576) next.todo in below (replaces step) x.state.player.todo todo (ap has_all next.todo ∙ none_all y.state.player.todo next.taken) within.1 (omega (arith, within.0, is)))
      step (rw taken at s)

  pub first_turn : (byte : ℕ) (b : ModeBefore) (step : ByteStep) → IsNext (tasks.First byte) x.state.player y.state.player → IsFirstStep d ks (state_of x.state) y new byte b step → IsTurnStep d ks x new b step
  first_turn byte b step next s =
      step_from (SeesNames d ks x.user) (λ v. first_played (state_of x.state) (comes_of byte v)) mine true (is_played x.state.player.todo) (IsWithin (1048578 + weight 1048576 y.state.player.todo)) (TurnLeft (replaces step) x.state.player.todo) y.state.player x new b
      (λ v. ap (todo_turn v (state_of x.state)) next.todo ∙ ap (first_played (state_of x.state)) (byte_comes byte true v next.playing))
      (ap is_played next.todo ∙ played_of y.state.player.todo next.taken)
      (λ todo within. let is = ap (weight 1048576) next.todo in below (replaces step) x.state.player.todo todo (ap has_all next.todo ∙ none_all y.state.player.todo next.taken) within.1 (omega (arith, within.0, is)))
      step (rw taken at s)

  pub end_turn : IsNext tasks.End x.state.player y.state.player → new ≡ acted Other y → IsTurnStep d ks x new befores.Plain Kept
  end_turn next is =
      let all : x.state.player.todo ≡ Play ∷ [] = next.todo ∙ ap (λ (todo : List Todo). Play ∷ todo) next.taken in
      rw (is ∙ ap (acted Other) taken) (record {
        state = refl;
        stays = λ bs. search_still bs x.state.search x.state.prompt;
        turn = λ v sees. ap (todo_turn v (state_of x.state)) all ∙ (λ i. Keep (record (state_of x.state) { kind = Other; playing = sym next.playing i; todo = sym next.taken i }));
        left = rw (all, next.taken) (below false (Play ∷ []) [] refl refl (omega arith));
        fit = fit_empty (state_of (acted Other (playing_as y.state.player x)).state) next.taken;
      })

  -- a further replacement, whose session is as it was but for the last command's kind
  replacement_turn : (k : Kind) (task : List Todo) (more : List Todo) → x.state.player.todo ≡ task → has_all task ≡ true → is_played task ≡ true → has_all (without_all task) ≡ false → new ≡ acted k x
      → ((v : View) → mine v ≡ Do (record (state_of x.state) { kind = k }) (model_act (state_of x.state) befores.Held (byte_acts.Replace false))) → IsFit (state_of x.state) → is_replacing x.state.search ≡ true → IsTurnStep d ks x new befores.Held (Acts (byte_acts.Replace false))
  replacement_turn k task more todo all played rest is turn fit replaces =
      let typed : is_played x.state.player.todo ≡ true = ap is_played todo ∙ played in
      rw is (record {
        state = refl;
        stays = λ bs. search_still bs x.state.search x.state.prompt;
        ready = replaces;
        here = tt;
        turn = λ v sees. turn v;
        playing = λ e. elim x.state.player.playing as (λ plays. is_quiet plays (Run (commands.Replace ReplaceMatch) None (state_of x.state).input) ≡ true) [ true ↦ refl | false ↦ refl ];
        typed = λ e. not_both (is_played x.state.player.todo) typed e;
        left = record { played = typed; less = λ e. not_both (has_all x.state.player.todo) (ap has_all todo ∙ all) e; same = λ e. (refl, refl, ap (λ (ts : List Todo). has_all (without_all ts)) todo ∙ rest) };
        again = λ wants. held_again x.state.search replaces;
        search = λ wants. refl;
        fit = fit;
        begins = λ h. cc;
        further = λ e. (refl, ap (λ (ts : List Todo). has_all (without_all ts)) todo ∙ rest);
      })
    where
      held_again : (g : Option Search) → is_replacing g ≡ true → (let o : Session = record x { state = record x.state { search = g } } in state_of (refused (before_turn befores.Held x.state) o).state ≡ refused_state (state_of o.state))
      held_again None e = cc
      held_again (Some g) e = refl

  -- the session replaces where further replacements are to be done
  fit_replacing : IsFit (state_of x.state) → has_all x.state.player.todo ≡ true → is_replacing x.state.search ≡ true
  fit_replacing fit all = mode_replacing x.state.search x.state.prompt (fit all).0

  pub replace_turn : IsFit (state_of x.state) → IsNext tasks.Replacement x.state.player y.state.player → new ≡ y → IsTurnStep d ks x new befores.Held (Acts (byte_acts.Replace false))
  replace_turn fit next is =
      let more = next.taken.0 in
      let todo : x.state.player.todo ≡ Replace_all ∷ more = next.todo ∙ next.taken.1 in
      let played : is_played more ≡ true = played_of more next.taken.2 in
      let same : y.state.player ≡ x.state.player = (λ i. record { playing = next.playing i; todo = sym next.todo i }) in
      replacement_turn x.state.kind (Replace_all ∷ more) more todo refl played (none_all more next.taken.2) (is ∙ taken ∙ ap (λ (q : Playing). playing_as q x) same) (λ v. ap (todo_turn v (state_of x.state)) todo) fit (fit_replacing fit (ap has_all todo))

  pub first_replace_turn : IsFit (state_of x.state) → IsNext tasks.FirstReplacement x.state.player y.state.player → new ≡ acted Other y → IsTurnStep d ks x new befores.Held (Acts (byte_acts.Replace false))
  first_replace_turn fit next is =
      let more = next.taken.0 in
      let todo : x.state.player.todo ≡ Play ∷ Replace_all ∷ more = next.todo ∙ next.taken.1 in
      let played : is_played more ≡ true = played_of more next.taken.2 in
      let same : y.state.player ≡ x.state.player = (λ i. record { playing = next.playing i; todo = sym next.todo i }) in
      replacement_turn Other (Play ∷ Replace_all ∷ more) more todo refl played (none_all more next.taken.2) (is ∙ ap (acted Other) (taken ∙ ap (λ (q : Playing). playing_as q x) same)) (λ v. ap (todo_turn v (state_of x.state)) todo) fit (fit_replacing fit (ap has_all todo))

  pub nothing_turn : (b : ModeBefore) (step : ByteStep) → (x.state.player.todo ≡ [] → ⊥) → IsNext tasks.Nothing x.state.player y.state.player → IsTurnStep d ks x new b step
  nothing_turn b step some next = absurd (some (next.todo ∙ next.taken))
