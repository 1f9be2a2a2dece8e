-- What a byte makes of a session by itself, and what a turn makes of it.
use Rattle.std.proofs.Common.{◌≡◌, ℕ, zero, suc, ◌+◌, ◌*◌, ◌≤◌, Bool, true, false, cond, List, [], ◌∷◌, ◌++◌, map, length, Option, Some, None, refl, sym, ap, subst, ◌∙◌, arith, append-nil, length-append}
use Rattle.std.specs.Prelude.{Result, Ok, Err, ◌||◌, ◌==◌, nat_lt, replicate}
use Rattle.std.specs.List.{flat_map}
use Rattle.std.proofs.lemmas.List.{map-append}
use Rattle.std.proofs.lemmas.Bool.{ltb-false}
use Rattle.mgs_model.specs.Access.{Directory}
use Rattle.mgs_model.specs.World.{Todo, Played, Play}
use Rattle.mgs_model.specs.World as model
use Rattle.mgs_model.specs.View.{View}
use Rattle.mgs_model.specs.Outcome.{Run}
use Rattle.mgs_model.specs.Apply.{is_search_mode}
use Rattle.mgs_model.specs.Keys.{key_read}
use Rattle.mgs_model.specs.Plans.{acted_state, count_of, kind_failed, setting}
use Rattle.mgs_model.specs.Turns.{Turn, Keep, Do, command_turn, plays}
use Rattle.mgs_model.specs.Events.{refused_state}
use Rattle.mgs_model.specs.declared.echo_text.Message.{Message}
use Rattle.mgs_model.specs.declared.echo_text.Message.TheVariants.{Says}
use Rattle.mgs_model.specs.declared.echo_text.Notice.TheVariants.{InMacro, NoMacro, TooMany}
use Rattle.mgs_model.specs.declared.session.Command.{Command}
use Rattle.mgs_model.specs.declared.session.Command.TheVariants.{Set, Exit}
use Rattle.mgs_model.specs.declared.session.Setting.TheVariants.{CallMacro}
use Rattle.mgs_model.specs.declared.session.Kind.{Kind}
use Rattle.mgs_model.specs.declared.session.Kind.TheVariants.{Other}
use Rattle.mgs_model.specs.declared.limits.TheConstants.{REPETITION_LIMIT}
use Rattle.mgs_laws.proofs.Ends.{call_fails, exit_fails}
use Rattle.mgs_core.proofs.Silent.{act_reported, call_silent, exit_silent}
use Rattle.mgs_buffers.specs.MarkedBuffer.{MarkedBuffer}
use Rattle.mgs_plan.specs.declared.key_act.KeyAct.{KeyAct}
use Rattle.mgs_plan.specs.declared.key_act.KeyAct.TheVariants.{Unbound as unbound}
use Rattle.mgs_maps.specs.Held.{Held, FedBy, is_bound}
use Rattle.mgs_maps.specs.declared.maps.Fed.TheVariants as fed
use Rattle.mgs_session.specs.declared.State.{State}
use Rattle.mgs_session.specs.declared.Session.{Session}
use Rattle.mgs_session.specs.declared.search.Search.{Search}
use Rattle.mgs_session.specs.Playing.{Playing, are_behind, are_played, rounds}
use Rattle.mgs_session.specs.Sessions.{failed, holding, macro_called, resting}
use Rattle.mgs_world.specs.Worlds.{mode_in, state_of, search_of}
use Rattle.mgs_core.specs.declared.byte_acts.ByteAct.{ByteAct}
use Rattle.mgs_core.specs.declared.byte_acts.ByteAct.TheVariants as byte_acts
use Rattle.mgs_core.specs.declared.byte_acts.ModeBefore.{ModeBefore}
use Rattle.mgs_core.specs.declared.byte_acts.ModeBefore.TheVariants as befores
use Rattle.mgs_core.specs.declared.key_byte.ByteStep.{ByteStep}
use Rattle.mgs_core.specs.declared.key_byte.ByteStep.TheVariants.{Kept, Failed, Ends, Acts}
use Rattle.mgs_core.specs.Prompted.{state_turn}
use Rattle.mgs_core.specs.KeyActs.{command_act}
use Rattle.mgs_core.specs.ByteActs.{refused, search_before, CanDo, IsReady, before_turn, model_act, deciding_state, may_want_memory, starts_replacing}
use Rattle.mgs_core.specs.ByteSteps.{IsAlone, IsByteStep, IsCommandStep, IsLeft, IsStep, MacroPlayed, SearchStays, SeesNames, StepActs, StepEnds, StepFailed, StepKept, call_fault, fault_of, is_call, is_exit}
use Rattle.mgs_core.specs.Turns.{IsFit, IsWithin, has_all, is_played, is_quiet, weight}
use Rattle.mgs_core.proofs.Commanded.{command_done, command_here, turn_command, turn_kept, turn_unbound}
use Rattle.mgs_world.proofs.Marks.{not_both}

-- WHAT IS LEFT

pub behind_of : (todo : List Todo) → are_played todo ≡ true → are_behind todo ≡ true
behind_of [] h = refl
behind_of (Played byte ∷ todo) h = h
behind_of _ h = cc

pub none_all : (todo : List Todo) → are_played todo ≡ true → has_all todo ≡ false
none_all [] h = refl
none_all (Played byte ∷ todo) h = none_all todo h
none_all _ h = cc

pub left_same : (old : Playing) (todo : List Todo) → IsAlone old → todo ≡ old.todo → IsLeft old todo
left_same old todo alone same = record {
  played = λ e n h. (let within = subst (IsWithin n) (sym same) h in (omega (arith, within.0), within.1));
  typed = λ e. subst (IsWithin 53689341957) (sym (same ∙ alone.typed e)) (omega arith, refl);
  behind = λ e. behind_of todo (ap are_played same ∙ alone.played);
}

pub left_none : (old : Playing) (todo : List Todo) → todo ≡ [] → IsLeft old todo
left_none old todo none = record {
  played = λ e n h. subst (IsWithin (1048577 + n)) (sym none) (omega arith, refl);
  typed = λ e. subst (IsWithin 53689341957) (sym none) (omega arith, refl);
  behind = λ e. ap are_behind none;
}

-- no further replacements are left
pub fit_none : (o : model.State) → has_all o.todo ≡ false → IsFit o
fit_none o none all = not_both (has_all o.todo) all none

-- a step of a byte keeps none of them to be done
pub further_same : {X : Type 0} (old : Playing) (o : model.State) → IsAlone old → o.todo ≡ old.todo → has_all o.todo ≡ true → X
further_same old o alone same all = not_both (has_all o.todo) all (ap has_all same ∙ none_all old.todo alone.played)

pub fit_empty : (o : model.State) → o.todo ≡ [] → IsFit o
fit_empty o none = fit_none o (ap has_all none)

-- the bytes of a macro, as they are to be done
played_bytes : (bytes : List ℕ) → (weight 1048576 (map Played bytes) ≡ length bytes * 1048579) × (has_all (map Played bytes) ≡ false) × (is_played (map Played bytes) ≡ true)
played_bytes [] = (refl, refl, refl)
played_bytes (byte ∷ bytes) = let later = played_bytes bytes in (omega (arith, later.0), later.1, later.2)

rounds_within : (n : ℕ) (bytes : List ℕ) → length bytes ≤ 512 → length (rounds n bytes) ≤ n * 512
rounds_within zero bytes h = omega arith
rounds_within (suc n) bytes h = omega (arith, h, rounds_within n bytes h, length-append bytes (rounds n bytes))

called_within : (n : ℕ) (bytes : List ℕ) → n ≤ 100 → length bytes ≤ 512 → IsWithin 53689341957 (Play ∷ map Played (rounds n bytes))
called_within n bytes few short =
    let played = played_bytes (rounds n bytes) in
    (omega (arith, rounds_within n bytes short, played.0, few), played.2)

-- the bytes of a macro so many times, as the model has them
rounds_are : (n : ℕ) (bytes : List ℕ) → flat_map (λ (bs : List ℕ). map Played bs) (replicate n bytes) ≡ map Played (rounds n bytes)
rounds_are zero bytes = refl
rounds_are (suc n) bytes = ap (λ (todo : List Todo). map Played bytes ++ todo) (rounds_are n bytes) ∙ sym (map-append Played bytes (rounds n bytes))

-- THE POSITIONS OF A SEARCH

pub none_stays : (old new : State) → new.search ≡ None → SearchStays old new
none_stays old new none bs =
    ap (search_of bs) none
    ∙ sym (ap (λ (s : Option Search). cond (is_search_mode (mode_in s new.prompt)) (search_of bs old.search) None) none
    ∙ (elim new.prompt as (λ p. cond (is_search_mode (mode_in None p)) (search_of bs old.search) None ≡ None) [ None ↦ refl | Some p ↦ refl ]))

-- WHERE A MACRO IS CALLED

-- it cannot be played, which breaks a run of commands
refused_of : (ok : model.State) (message : Message) (a b c : Bool) → cond a (Some (Says InMacro)) (cond b (Some (Says NoMacro)) (cond c (Some (Says TooMany)) None)) ≡ Some message
    → (let r : Result model.State Message = cond a (Err (Says InMacro)) (cond b (Err (Says NoMacro)) (cond c (Err (Says TooMany)) (Ok ok))) in r ≡ Err message) × ((k : Kind) → kind_failed message k ≡ Other)
refused_of ok message true b c e = let same : (Says InMacro) ≡ message = cc in (cc, λ k. ap (λ (m : Message). kind_failed m k) (sym same))
refused_of ok message false true c e = let same : (Says NoMacro) ≡ message = cc in (cc, λ k. ap (λ (m : Message). kind_failed m k) (sym same))
refused_of ok message false false true e = let same : (Says TooMany) ≡ message = cc in (cc, λ k. ap (λ (m : Message). kind_failed m k) (sym same))
refused_of ok message false false false e = cc

-- or it can, where none plays
allowed_of : (ok : model.State) (r a b c : Bool) → (let f : Option Message = cond (r || a) (Some (Says InMacro)) (cond b (Some (Says NoMacro)) (cond c (Some (Says TooMany)) None)) in f ≡ None)
    → (a ≡ false) × (c ≡ false) × (let s : Result model.State Message = cond (r || a) (Err (Says InMacro)) (cond b (Err (Says NoMacro)) (cond c (Err (Says TooMany)) (Ok ok))) in s ≡ Ok ok)
allowed_of ok true a b c e = cc
allowed_of ok false true b c e = cc
allowed_of ok false false true c e = cc
allowed_of ok false false false true e = cc
allowed_of ok false false false false e = (refl, refl, refl)

call_refused : (o : State) (n : Option ℕ) (message : Message) → call_fault o n ≡ Some message → (setting CallMacro (acted_state (state_of o)) n ≡ Err message) × ((k : Kind) → kind_failed message k ≡ Other)
call_refused o n message e =
    let state : model.State = acted_state (state_of o) in
    let more : List Todo = flat_map (λ (bytes : List ℕ). map Played bytes) (replicate (count_of n) state.macro) in
    refused_of (record state { todo = Play ∷ more ++ state.todo }) message (o.recorder.recording || o.player.playing) (length o.recorder.macro == 0) (nat_lt REPETITION_LIMIT (count_of n)) e

-- A STEP, by the session that it leaves

module _ (Sees : View → Type 0) (comes : View → Turn) (x new it : Session) (is : new ≡ it) (state : it ≡ record x { state = it.state }) (stays : SearchStays x.state it.state) where
  -- nothing else is left to do, or nothing at all
  pub kept_same : IsAlone x.state.player → ((v : View) → Sees v → comes v ≡ Keep (state_of it.state)) → it.state.player.todo ≡ x.state.player.todo → StepKept Sees comes (IsLeft x.state.player) x new
  kept_same alone turn todo =
      rw is (record { state = state; stays = stays; turn = turn; left = left_same x.state.player it.state.player.todo alone todo; fit = further_same x.state.player (state_of it.state) alone todo })

  pub kept_none : ((v : View) → Sees v → comes v ≡ Keep (state_of it.state)) → it.state.player.todo ≡ [] → StepKept Sees comes (IsLeft x.state.player) x new
  kept_none turn none =
      rw is (record { state = state; stays = stays; turn = turn; left = left_none x.state.player it.state.player.todo none; fit = fit_empty (state_of it.state) none })

  -- an act of a session that has the same to do, no macro plays that did not
  pub acts_same : (b : ModeBefore) (byte_act : ByteAct) → IsAlone x.state.player → IsReady byte_act it.state.search (state_of it.state) → CanDo b byte_act
      → ((v : View) → Sees v → comes v ≡ Do (deciding_state b byte_act (state_of it.state)) (model_act (state_of it.state) b byte_act)) → it.state.player ≡ x.state.player
      → (may_want_memory byte_act ≡ true → state_of (refused (before_turn b x.state) it).state ≡ refused_state (state_of x.state))
      → (may_want_memory byte_act ≡ true → search_before b it.state.search ≡ x.state.search) → (starts_replacing byte_act ≡ true → x.state.search ≡ None)
      → StepActs Sees comes x.state.player.playing (IsLeft x.state.player) x new b byte_act
  acts_same b byte_act alone ready here turn same again search begins =
      let todo : it.state.player.todo ≡ x.state.player.todo = ap (λ (p : Playing). p.todo) same in
      rw is (record {
        state = state;
        stays = stays;
        ready = ready;
        here = here;
        turn = turn;
        playing = λ e. ap (λ (p : Bool). is_quiet p (model_act (state_of it.state) b byte_act)) (ap (λ (p : Playing). p.playing) same ∙ e);
        typed = λ e. todo ∙ alone.typed e;
        left = left_same x.state.player it.state.player.todo alone todo;
        again = again;
        search = search;
        fit = further_same x.state.player (state_of it.state) alone todo;
        further = further_same x.state.player (state_of it.state) alone todo;
        begins = begins;
      })

-- what is no act, of a session that is this one but for what it holds
pub step_without_act : (Sees : View → Type 0) (comes mine : View → Turn) (a p : Bool) (Left Mine : List Todo → Type 0) (o : State) (x new : Session) (b e : ModeBefore) → ((v : View) → mine v ≡ comes v) → p ≡ a → ((todo : List Todo) → Left todo → Mine todo)
    → (SearchStays o new.state → SearchStays x.state new.state) → (step : ByteStep) → ((byte_act : ByteAct) → step ≡ Acts byte_act → ⊥) → IsStep Sees comes a Left (record x { state = o }) new b step → IsStep Sees mine p Mine x new e step
step_without_act Sees comes mine a p Left Mine o x new b e same is less stay Kept none s = record { state = s.state; stays = stay s.stays; turn = λ v sees. same v ∙ s.turn v sees; left = less new.state.player.todo s.left; fit = s.fit }
step_without_act Sees comes mine a p Left Mine o x new b e same is less stay Failed none s = record {
  state = s.state;
  stays = stay s.stays;
  before = s.before;
  act = s.act;
  message = s.message;
  turn = λ v sees. same v ∙ s.turn v sees;
  playing = s.playing ∙ sym is;
  fails = s.fails;
  breaks = s.breaks;
  quiet = s.quiet;
  told = s.told;
}
step_without_act Sees comes mine a p Left Mine o x new b e same is less stay Ends none s = record {
  state = s.state;
  stays = stay s.stays;
  before = s.before;
  argument = s.argument;
  turn = λ v sees. same v ∙ s.turn v sees;
  quiet = s.quiet;
  typed = is ∙ s.typed;
}
step_without_act Sees comes mine a p Left Mine o x new b e same is less stay (Acts byte_act) none s = absurd (none byte_act refl)

-- WHAT A COMMAND COMES TO in a session at rest

-- it fails
module _ (Sees : View → Type 0) (comes : View → Turn) (x new : Session) (c : Command) (n : Option ℕ) (turn : (v : View) → Sees v → comes v ≡ command_turn (state_of (resting x).state) n c) where
  exit_failed : c ≡ Exit → x.state.player.playing ≡ true → new ≡ failed (Says InMacro) (resting x) → StepFailed Sees comes x.state.player.playing x new
  exit_failed is plays told =
      let state : model.State = state_of (resting x).state in
      rw told (record {
        state = refl;
        stays = none_stays x.state (failed (Says InMacro) (resting x)).state refl;
        before = state;
        act = Run Exit n [];
        message = Says InMacro;
        turn = λ v sees. turn v sees ∙ ap (command_turn state n) is;
        playing = refl;
        fails = λ v k seen. exit_fails v n true (ap (λ (o : model.State). o.playing) seen ∙ plays);
        breaks = λ k. refl;
        quiet = λ w id t. act_reported w id (Run Exit n []) true t (exit_silent n true) (λ v. refl);
        told = refl;
      })

  call_failed : (message : Message) → c ≡ Set CallMacro → call_fault (resting x).state n ≡ Some message → new ≡ failed message (resting x) → StepFailed Sees comes x.state.player.playing x new
  call_failed message is fault told =
      let state : model.State = state_of (resting x).state in
      let r = call_refused (resting x).state n message fault in
      rw told (record {
        state = refl;
        stays = none_stays x.state (failed message (resting x)).state refl;
        before = state;
        act = Run (Set CallMacro) n [];
        message = message;
        turn = λ v sees. turn v sees ∙ ap (command_turn state n) is ∙ ap (plays state n) r.0;
        playing = refl;
        fails = λ v k seen. call_fails v n message true (ap (λ (o : model.State). setting CallMacro (acted_state o) n) seen ∙ r.0);
        breaks = r.1;
        quiet = λ w id t. act_reported w id (Run (Set CallMacro) n []) true t (call_silent n true) (λ v. refl);
        told = refl;
      })

  -- a macro is played
  call_kept : c ≡ Set CallMacro → IsAlone x.state.player → MacroPlayed (resting x) new n → StepKept Sees comes (IsLeft x.state.player) x new
  call_kept is alone p =
      let o : State = (resting x).state in
      let state : model.State = state_of o in
      let more : List Todo = flat_map (λ (bytes : List ℕ). map Played bytes) (replicate (count_of n) o.recorder.macro) in
      let ok : model.State = record (acted_state state) { todo = Play ∷ more ++ state.todo } in
      let allowed = allowed_of ok o.recorder.recording o.player.playing (length o.recorder.macro == 0) (nat_lt REPETITION_LIMIT (count_of n)) p.fault in
      let typed : o.player.playing ≡ false = allowed.0 in
      let it : Session = macro_called (count_of n) (resting x) in
      rw p.called (record {
        state = refl;
        stays = none_stays x.state it.state refl;
        turn = λ v sees.
            turn v sees
            ∙ ap (command_turn state n) is
            ∙ ap (plays state n) allowed.2
            ∙ ap (λ (todo : List Todo). Keep (record state { todo = Play ∷ todo })) (ap (λ (todo : List Todo). more ++ todo) (alone.typed typed) ∙ append-nil more ∙ rounds_are (count_of n) o.recorder.macro);
        left = record {
          played = λ e k h. not_both x.state.player.playing e typed;
          typed = λ e. called_within (count_of n) o.recorder.macro (ltb-false REPETITION_LIMIT (count_of n) allowed.1) p.within;
          behind = λ e. not_both x.state.player.playing e typed;
        };
        fit = fit_none (state_of it.state) (played_bytes (rounds (count_of n) o.recorder.macro)).1;
      })

  ended_step : c ≡ Exit → x.state.player.playing ≡ false → new ≡ resting x → StepEnds Sees comes x.state.player.playing x new
  ended_step is typed same =
      let state : model.State = state_of (resting x).state in
      record {
        state = same ∙ sym (ap (λ (s : Session). record x { state = s.state }) same);
        stays = none_stays x.state new.state (ap (λ (s : Session). s.state.search) same);
        before = state;
        argument = n;
        turn = λ v sees. turn v sees ∙ ap (command_turn state n) is;
        quiet = typed;
        typed = typed;
      }

  -- or it is an act
  acts_step : (b : ModeBefore) → is_bound c ≡ true → is_exit c ≡ false → is_call c ≡ false → IsAlone x.state.player → new ≡ resting x
      → state_of (refused (before_turn b x.state) (resting x)).state ≡ refused_state (state_of x.state)
      → ((s : Option Search) → search_before b s ≡ x.state.search)
      → StepActs Sees comes x.state.player.playing (IsLeft x.state.player) x new b (byte_acts.Act (command_act c n))
  acts_step b bound goes_on calls alone same again search =
      let a = command_act c n in
      acts_same Sees comes x new (resting x) same refl (none_stays x.state (resting x).state refl) b (byte_acts.Act a) alone refl (command_here n c bound goes_on calls)
      (λ v sees. turn v sees ∙ command_done (state_of (resting x).state) n c calls) refl (λ wants. again) (λ wants. search None) (λ h. cc)

is_exit_of : (c : Command) → is_exit c ≡ true → c ≡ Exit
is_exit_of Exit h = refl
is_exit_of _ h = cc

is_call_of : (c : Command) → is_call c ≡ true → c ≡ Set CallMacro
is_call_of (Set CallMacro) h = refl
is_call_of _ h = cc

pub command_step : (Sees : View → Type 0) (comes : View → Turn) (x new : Session) (c : Command) (n : Option ℕ) (b : ModeBefore) (step : ByteStep) → ((v : View) → Sees v → comes v ≡ command_turn (state_of (resting x).state) n c) → is_bound c ≡ true → IsAlone x.state.player
    → state_of (refused (before_turn b x.state) (resting x)).state ≡ refused_state (state_of x.state)
    → ((s : Option Search) → search_before b s ≡ x.state.search)
    → IsCommandStep (resting x) new c n step
    → IsStep Sees comes x.state.player.playing (IsLeft x.state.player) x new b step
command_step Sees comes x new c n b Kept turn bound alone again search s = call_kept Sees comes x new c n turn (is_call_of c s.0) alone s.1
command_step Sees comes x new c n b Failed turn bound alone again search s = by c refl s.fault
  where
    exit_told : (b : Bool) (message : Message) → cond b (Some (Says InMacro)) None ≡ Some message → (b ≡ true) × (message ≡ (Says InMacro))
    exit_told true message e = let same : (Says InMacro) ≡ message = cc in (refl, sym same)
    exit_told false message e = cc

    by : (k : Command) → c ≡ k → fault_of (resting x).state k n ≡ Some s.message → StepFailed Sees comes x.state.player.playing x new
    by Exit is fault = (let known = exit_told x.state.player.playing s.message fault in exit_failed Sees comes x new c n turn is known.0 (s.told ∙ ap (λ (m : Message). failed m (resting x)) known.1))
    by (Set CallMacro) is fault = call_failed Sees comes x new c n turn s.message is fault s.told
    by _ is fault = cc
command_step Sees comes x new c n b Ends turn bound alone again search s = ended_step Sees comes x new c n turn (is_exit_of c s.0) s.1 s.2
command_step Sees comes x new c n b (Acts (byte_acts.Act a)) turn bound alone again search s =
    subst (λ (k : KeyAct). StepActs Sees comes x.state.player.playing (IsLeft x.state.player) x new b (byte_acts.Act k)) (sym s.2) (acts_step Sees comes x new c n turn b bound s.0 s.1 alone s.3 again search)
command_step Sees comes x new c n b (Acts _) turn bound alone again search s = absurd s

-- A KEY

-- of a session that neither searches nor is at a prompt
abbrev plain : Session → Session
plain x = record x { state = record x.state { search = None; prompt = None } }

plain_same : (x : Session) → x.state.search ≡ None → x.state.prompt ≡ None → x ≡ plain x
plain_same x still none = λ i. record x { state = record x.state { search = still i; prompt = none i } }

again_plain : (x : Session) → x.state.search ≡ None → x.state.prompt ≡ None → state_of (refused (before_turn befores.Plain x.state) (resting x)).state ≡ refused_state (state_of x.state)
again_plain x still none = sym (ap (λ (y : Session). refused_state (state_of y.state)) (plain_same x still none))

pub key_kept : (d : Directory) (ks : List MarkedBuffer) (x new : Session) (byte : ℕ) (k : Held) → x.state.search ≡ None → x.state.prompt ≡ None → IsAlone x.state.player → FedBy fed.Pending (key_read x.state.keyboard.argument x.state.keyboard.keys byte) k → new ≡ holding k x → IsByteStep d ks x new byte befores.Plain Kept
key_kept d ks x new byte k still none alone read held =
    kept_same (SeesNames d ks x.user) (λ v. state_turn v x.state byte) x new (holding k x) held refl (none_stays x.state (holding k x).state refl) alone (λ v sees. turn_kept v x.state byte k still none read) refl

pub key_unbound : (d : Directory) (ks : List MarkedBuffer) (x new : Session) (byte : ℕ) (k : Held) → x.state.search ≡ None → x.state.prompt ≡ None → IsAlone x.state.player → FedBy fed.Unbound (key_read x.state.keyboard.argument x.state.keyboard.keys byte) k → new ≡ resting x → IsByteStep d ks x new byte befores.Plain (Acts (byte_acts.Act unbound))
key_unbound d ks x new byte k still none alone read same =
    acts_same (SeesNames d ks x.user) (λ v. state_turn v x.state byte) x new (resting x) same refl (none_stays x.state (resting x).state refl) befores.Plain (byte_acts.Act unbound) alone refl refl
    (λ v sees. turn_unbound v x.state byte k still none read) refl (λ wants. again_plain x still none) (λ wants. sym still) (λ h. cc)

pub key_command : (d : Directory) (ks : List MarkedBuffer) (x y new : Session) (byte : ℕ) (k : Held) (c : Command) (n : Option ℕ) (step : ByteStep) → x.state.search ≡ None → x.state.prompt ≡ None → IsAlone x.state.player → FedBy (fed.Run c n) (key_read x.state.keyboard.argument x.state.keyboard.keys byte) k → is_bound c ≡ true → y ≡ resting x → IsCommandStep y new c n step → IsByteStep d ks x new byte befores.Plain step
key_command d ks x y new byte k c n step still none alone read bound rests s =
    command_step (SeesNames d ks x.user) (λ v. state_turn v x.state byte) x new c n befores.Plain step (λ v sees. turn_command v x.state byte k c n still none read) bound alone (again_plain x still none) (λ r. sym still) (rw rests at s)
