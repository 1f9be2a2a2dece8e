-- A byte of a session at a prompt.
use Rattle.std.proofs.Common.{◌≡◌, ℕ, Bool, true, cond, List, [], Option, Some, None, refl, sym, ap, subst, ◌∙◌}
use Rattle.mgs_model.specs.Access.{Directory}
use Rattle.mgs_model.specs.Commands.{command_names, find_command, command_for, names_buffers, names_commands}
use Rattle.mgs_model.specs.Keys.{value_of}
use Rattle.mgs_model.specs.World.{World}
use Rattle.mgs_model.specs.World as model
use Rattle.mgs_model.specs.View.{View}
use Rattle.mgs_model.specs.Outcome.{Act, Run}
use Rattle.mgs_model.specs.Apply.{outcome_in}
use Rattle.mgs_model.specs.Completion.{completion, shown_names}
use Rattle.mgs_mini.specs.Narrowing.{granted_names}
use Rattle.mgs_model.specs.Turns.{Keep, Do, command_turn, answer_turn, completed, named_turn, names_completed, plain_state, prompt_turn, unbound_state}
use Rattle.mgs_model.specs.Events.{refused_state}
use Rattle.mgs_laws.specs.Refusals.{may_be_refused}
use Rattle.mgs_model.specs.declared.echo_text.Message.TheVariants.{Says}
use Rattle.mgs_model.specs.declared.echo_text.Notice.TheVariants.{Silent, NoMemory, NoSuchCommand, Quitting}
use Rattle.mgs_model.specs.declared.session.Command.{Command}
use Rattle.mgs_model.specs.declared.session.Mode.TheVariants.{Prompt}
use Rattle.mgs_model.specs.declared.session.Question.{Question}
use Rattle.mgs_model.specs.declared.session.Question.TheVariants.{SwitchTo, RunWhich, ReplaceWhat, ReplaceWith}
use Rattle.mgs_laws.proofs.LeftToDo.{is_single}
use Rattle.mgs_mini.specs.Typing.{IsFirst, PromptInput, keys_of, stepped, typed_state}
use Rattle.mgs_mini.specs.Typing as prompts
use Rattle.mgs_mini.specs.declared.Step.{Step}
use Rattle.mgs_mini.specs.declared.Step.TheVariants.{GoesOn, Answered, Quit, Completes, Unbound}
use Rattle.mgs_mini.specs.declared.Waiting.{Waiting}
use Rattle.mgs_mini.specs.declared.Waiting.TheVariants.{NoKey}
use Rattle.mgs_plan.specs.Actions.{is_answered}
use Rattle.mgs_model.specs.declared.touched.Touched.{Touched}
use Rattle.mgs_plan.specs.Searching.{meant}
use Rattle.mgs_model.specs.Plans.{failed_state}
use Rattle.mgs_buffers.specs.MarkedBuffer.{MarkedBuffer}
use Rattle.mgs_session.specs.declared.Session.{Session}
use Rattle.mgs_session.specs.declared.search.Aim.TheVariants.{Find, Replace}
use Rattle.mgs_session.specs.declared.search.Search.{Search}
use Rattle.mgs_session.specs.Sessions.{failed, prompting, resting, unbound, unprompted}
use Rattle.mgs_session.specs.Seeking.{unsearched}
use Rattle.mgs_births.specs.Telling.{StoreTold}
use Rattle.mgs_act.specs.Doing.{DoneBy}
use Rattle.mgs_world.specs.Worlds.{aim_mode, buffers_of, idle, mode_in, state_of}
use Rattle.mgs_world.proofs.Owns.{prompt_fed}
use Rattle.mgs_core.specs.declared.byte_acts.ByteAct.{ByteAct}
use Rattle.mgs_core.specs.declared.byte_acts.ByteAct.TheVariants as byte_acts
use Rattle.mgs_core.specs.declared.byte_acts.ModeBefore.{ModeBefore}
use Rattle.mgs_core.specs.declared.byte_acts.ModeBefore.TheVariants as befores
use Rattle.mgs_core.specs.declared.key_byte.ByteStep.{ByteStep}
use Rattle.mgs_core.specs.declared.key_byte.ByteStep.TheVariants.{Kept, Acts}
use Rattle.mgs_core.specs.Prompted.{names_for, state_turn}
use Rattle.mgs_core.specs.ByteActs.{asked_of, before_turn, model_act, deciding_state, refused}
use Rattle.mgs_core.specs.ByteSteps.{IsAlone, IsAnswerStep, IsAskedStep, IsByteStep, IsNamedStep, IsReplyStep, SeesNames, second_input}
use Rattle.mgs_core.proofs.Stepped.{command_step, further_same, left_same, none_stays, acts_same, kept_none, kept_same}

-- WHAT AN ANSWER IS FOR

-- the act of a question whose answer is for a command of its own
asked_turn : (c : Question) → is_answered c ≡ true → (state : model.State) → answer_turn c state ≡ Do (plain_state state) (Run (command_for c) (value_of state.argument) (meant (command_for c) state.pattern state.input))
asked_turn RunWhich h state = cc
asked_turn ReplaceWhat h state = cc
asked_turn ReplaceWith h state = cc
asked_turn _ h state = refl

-- it leaves no more to do, and saves nothing
pub answered_single : (c : Question) (n : Option ℕ) (typed : List ℕ) → is_single (Run (command_for c) n typed) ≡ true
answered_single SwitchTo n typed = refl
answered_single _ n typed = refl

-- A TURN

at_prompt : (v : View) (y : Session) (p : PromptInput) (byte : ℕ) → (unsearched y).state.prompt ≡ Some p → state_turn v (unsearched y).state byte ≡ prompt_turn v p.question (record (state_of (unsearched y).state) { echo = Says Silent }) byte
at_prompt v y p byte is = ap (λ (r : Option PromptInput). state_turn v (record (unsearched y).state { prompt = r }) byte) is ∙ sym (ap (λ (r : Option PromptInput). prompt_turn v p.question (record (state_of (record (unsearched y).state { prompt = r })) { echo = Says Silent }) byte) is)

-- A STEP OF A PROMPT

-- what a byte comes to, which leaves q of p
abbrev pub IsFed : PromptInput → PromptInput → ℕ → Step → Type 0
IsFed p q byte step = (v : View) (state : model.State) → prompt_turn v p.question (typed_state state p.input p.waiting) byte ≡ stepped v p.question (typed_state state q.input q.waiting) step

step_turn : (v : View) (y : Session) (p q : PromptInput) (step : Step) (byte : ℕ) → (unsearched y).state.prompt ≡ Some p → q.question ≡ p.question → q.first ≡ p.first → IsFed p q byte step → state_turn v (unsearched y).state byte ≡ stepped v p.question (state_of (prompting q (unsearched y)).state) step
step_turn v y p q step byte is question first turn = at_prompt v y p byte is ∙ prompt_fed v (unsearched y) p q step byte refl is question first turn

pub goes_on : (d : Directory) (ks : List MarkedBuffer) (y taken new : Session) (p q : PromptInput) (byte : ℕ) → IsAlone (unsearched y).state.player → (unsearched y).state.prompt ≡ Some p → q.question ≡ p.question → q.first ≡ p.first → IsFed p q byte GoesOn → taken ≡ unprompted (unsearched y) → new ≡ prompting q taken → IsByteStep d ks (unsearched y) new byte befores.Plain Kept
goes_on d ks y taken new p q byte alone is question first turn took held =
    let it : Session = prompting q (unsearched y) in
    kept_same (SeesNames d ks (unsearched y).user) (λ v. state_turn v (unsearched y).state byte) (unsearched y) new it (held ∙ ap (prompting q) took) refl (none_stays (unsearched y).state it.state refl) alone (λ v sees. step_turn v y p q GoesOn byte is question first turn) refl

pub quits : (d : Directory) (ks : List MarkedBuffer) (y taken new : Session) (p q : PromptInput) (byte : ℕ) → (unsearched y).state.prompt ≡ Some p → q.question ≡ p.question → q.first ≡ p.first → IsFed p q byte Quit → taken ≡ unprompted (unsearched y) → new ≡ failed (Says Quitting) taken → IsByteStep d ks (unsearched y) new byte befores.Plain Kept
quits d ks y taken new p q byte is question first turn took held =
    let it : Session = failed (Says Quitting) (unsearched y) in
    kept_none (SeesNames d ks (unsearched y).user) (λ v. state_turn v (unsearched y).state byte) (unsearched y) new it (held ∙ ap (failed (Says Quitting)) took) refl (none_stays (unsearched y).state it.state refl) (λ v sees. step_turn v y p q Quit byte is question first turn) refl

pub unbinds : (d : Directory) (ks : List MarkedBuffer) (y taken new : Session) (p q : PromptInput) (byte : ℕ) → (unsearched y).state.prompt ≡ Some p → q.question ≡ p.question → q.first ≡ p.first → q.waiting ≡ NoKey → IsFed p q byte Unbound → taken ≡ unprompted (unsearched y) → new ≡ unbound (prompting q taken) → IsByteStep d ks (unsearched y) new byte befores.Plain Kept
unbinds d ks y taken new p q byte is question first none turn took held =
    let state : model.State = unbound_state (state_of (prompting q (unsearched y)).state) in
    let it : Session = unbound (prompting q (unsearched y)) in
    kept_none (SeesNames d ks (unsearched y).user) (λ v. state_turn v (unsearched y).state byte) (unsearched y) new it (held ∙ ap (λ (s : Session). unbound (prompting q s)) took) refl (none_stays (unsearched y).state it.state refl)
    (λ v sees. step_turn v y p q Unbound byte is question first turn ∙ sym (ap (λ (w : Waiting). Keep (record state { keys = keys_of w })) none)) refl

-- what is completed: the names that are seen are those that are granted
completed_seen : (d : Directory) (ks : List MarkedBuffer) (user : List ℕ) (v : View) (c e : Question) (state : model.State) (input : List ℕ) → shown_names v ≡ granted_names d user (buffers_of ks) → e ≡ c → completed state (completion (names_completed v c) input) ≡ completed state (completion (names_for d user ks e) input)
completed_seen d ks user v c e state input sees same =
    ap (λ (names : List (List ℕ)). completed state (completion (cond (names_buffers c) names (cond (names_commands c) command_names [])) input)) sees
    ∙ sym (ap (λ (k : Question). completed state (completion (names_for d user ks k) input)) same)

completed_same : (state : model.State) (o : Option (List ℕ)) → ((completed state o).todo ≡ state.todo) × ((completed state o).mode ≡ state.mode)
completed_same state None = (refl, refl)
completed_same state (Some text) = (refl, refl)

-- a session in the mode of a prompt does not search
prompted_none : (s : Option Search) (p : Option PromptInput) (c : Question) → mode_in s p ≡ Prompt c → s ≡ None
prompted_none None p c e = refl
prompted_none (Some s) p c e = (elim s.aim as (λ a. aim_mode a ≡ Prompt c → Path (Option Search) (Some s) None) [ Find f ↦ λ h. cc | Replace r ↦ λ h. cc ]) e

pub completes : (d : Directory) (ks : List MarkedBuffer) (y taken new : Session) (p q : PromptInput) (byte : ℕ) → IsAlone (unsearched y).state.player → (unsearched y).state.prompt ≡ Some p → q.question ≡ p.question → q.first ≡ p.first → IsFed p q byte Completes → taken ≡ unprompted (unsearched y)
    → state_of new.state ≡ completed (state_of (prompting q taken).state) (completion (names_for d taken.user ks q.question) q.input) → new ≡ record taken { state = new.state } → IsByteStep d ks (unsearched y) new byte befores.Plain Kept
completes d ks y taken new p q byte alone is question first turn took owns rest =
    let same = completed_same (state_of (prompting q taken).state) (completion (names_for d taken.user ks q.question) q.input) in
    let todo = ap (λ (o : model.State). o.todo) owns ∙ same.0 ∙ ap (λ (s : Session). s.state.player.todo) took in
    record {
      state = rest ∙ ap (λ (s : Session). record s { state = new.state }) took;
      stays = none_stays (unsearched y).state new.state
          (prompted_none new.state.search new.state.prompt q.question (ap (λ (o : model.State). o.mode) owns ∙ same.1 ∙ ap (λ (s : Session). (state_of (prompting q s).state).mode) took));
      turn = λ v sees.
          step_turn v y p q Completes byte is question first turn
          ∙ ap Keep
          (completed_seen d ks (unsearched y).user v p.question q.question (state_of (prompting q (unsearched y)).state) q.input sees question
          ∙ sym (ap (λ (s : Session). completed (state_of (prompting q s).state) (completion (names_for d s.user ks q.question) q.input)) took)
          ∙ sym owns);
      left = left_same (unsearched y).state.player new.state.player.todo alone todo;
      fit = further_same (unsearched y).state.player (state_of new.state) alone todo;
    }

-- a completion, by the record that it leaves
pub completed_as : (x : Session) (p q : PromptInput) (text : Option (List ℕ)) (b : Bool) → x ≡ unsearched x → q.question ≡ p.question → q.first ≡ p.first → ((state : model.State) → completed (typed_state state p.input p.waiting) text ≡ prompts.told b (typed_state state q.input q.waiting)) → prompts.told b (state_of (prompting q x).state) ≡ completed (state_of (prompting p x).state) text
completed_as x p q text b still question first input =
    subst (λ (z : Session). prompts.told b (state_of (prompting q z).state) ≡ completed (state_of (prompting p z).state) text) (sym still)
    ((λ i. prompts.told b (record (typed_state (state_of (prompting p (unsearched x)).state) q.input q.waiting) { mode = Prompt (question i); old = first i })) ∙ sym (input (state_of (prompting p (unsearched x)).state)))

-- AN ANSWER, with no key half read

-- its act begins with the session at rest
plain_rests : (y : Session) (p : PromptInput) → p.waiting ≡ NoKey → p.first ≡ [] → plain_state (state_of (prompting p (unsearched y)).state) ≡ idle (state_of (unsearched y).state)
plain_rests y p none first = λ i. record (idle (state_of (unsearched y).state)) { keys = keys_of (none i); old = first i }

asked_at : (v : View) (y : Session) (p : PromptInput) (byte : ℕ) → (unsearched y).state.prompt ≡ Some p → p.waiting ≡ NoKey → p.first ≡ [] → IsFed p p byte Answered → is_answered p.question ≡ true
    → state_turn v (unsearched y).state byte ≡ Do (idle (state_of (unsearched y).state)) (Run (command_for p.question) (value_of (unsearched y).state.keyboard.argument) (meant (command_for p.question) (unsearched y).state.pattern p.input))
asked_at v y p byte is none first turn asked =
    step_turn v y p p Answered byte is refl refl turn
    ∙ asked_turn p.question asked (state_of (prompting p (unsearched y)).state)
    ∙ ap (λ (o : model.State). Do o (Run (command_for p.question) (value_of (unsearched y).state.keyboard.argument) (meant (command_for p.question) (unsearched y).state.pattern p.input))) (plain_rests y p none first)

-- an answer to this question
answered_at : (v : View) (y : Session) (p : PromptInput) (byte : ℕ) (c : Question) → (unsearched y).state.prompt ≡ Some p → IsFed p p byte Answered → p.question ≡ c → state_turn v (unsearched y).state byte ≡ answer_turn c (state_of (prompting p (unsearched y)).state)
answered_at v y p byte c is turn of_c = step_turn v y p p Answered byte is refl refl turn ∙ ap (λ (k : Question). answer_turn k (state_of (prompting p (unsearched y)).state)) of_c

named_at : (v : View) (y : Session) (p : PromptInput) (o : Option Command) (byte : ℕ) → (unsearched y).state.prompt ≡ Some p → IsFed p p byte Answered → p.question ≡ RunWhich → find_command p.input ≡ o → state_turn v (unsearched y).state byte ≡ named_turn (plain_state (state_of (prompting p (unsearched y)).state)) (value_of (unsearched y).state.keyboard.argument) o
named_at v y p o byte is turn names found =
    answered_at v y p byte RunWhich is turn names
    ∙ ap (named_turn (plain_state (state_of (prompting p (unsearched y)).state)) (value_of (unsearched y).state.keyboard.argument)) found

-- the session that is at its prompt again has what it had
again_prompted : (y : Session) (p : PromptInput) → (unsearched y).state.prompt ≡ Some p → p.waiting ≡ NoKey → state_of (refused (before_turn (befores.Prompt p) (unsearched y).state) (resting (unsearched y))).state ≡ refused_state (state_of (unsearched y).state)
again_prompted y p is none =
    let state : model.State = state_of (resting (unsearched y)).state in
    ap (λ (w : Waiting). record state { echo = Says NoMemory; keys = keys_of w; mode = Prompt p.question; input = p.input; old = p.first; todo = [] }) none
    ∙ sym (ap (λ (r : Option PromptInput). refused_state (state_of (record (unsearched y).state { prompt = r }))) is)

module _ (d : Directory) (ks : List MarkedBuffer) (y taken new : Session) (p : PromptInput) (byte : ℕ) (b : ModeBefore) (alone : IsAlone (unsearched y).state.player) (is : (unsearched y).state.prompt ≡ Some p) (none : p.waiting ≡ NoKey) (turn : IsFed p p byte Answered) (took : taken ≡ unprompted (unsearched y)) where
  -- its prompt was there before
  prompt_was : (step k : ByteStep) → step ≡ k → b ≡ befores.Prompt p → IsByteStep d ks (unsearched y) new byte (befores.Prompt p) k → IsByteStep d ks (unsearched y) new byte b step
  prompt_was step k same was s = rw (was, same) s

  -- where it names a command
  named_step : (step : ByteStep) (o : Option Command) → p.question ≡ RunWhich → p.first ≡ [] → find_command p.input ≡ o → IsNamedStep taken new p b o step → IsByteStep d ks (unsearched y) new byte b step
  named_step step None names first found did =
      let it : Session = failed (Says NoSuchCommand) (unsearched y) in
      subst (IsByteStep d ks (unsearched y) new byte b) (sym did.0)
      (kept_none (SeesNames d ks (unsearched y).user) (λ v. state_turn v (unsearched y).state byte) (unsearched y) new it (did.1 ∙ ap (failed (Says NoSuchCommand)) took) refl (none_stays (unsearched y).state it.state refl)
      (λ v sees. named_at v y p None byte is turn names found ∙ ap (λ (o : model.State). Keep (failed_state (Says NoSuchCommand) o)) (plain_rests y p none first)) refl)
  named_step step (Some c) names first found did =
      prompt_was step step refl did.1
      (command_step (SeesNames d ks (unsearched y).user) (λ v. state_turn v (unsearched y).state byte) (unsearched y) new c (value_of (unsearched y).state.keyboard.argument) (befores.Prompt p) step
      (λ v sees. named_at v y p (Some c) byte is turn names found ∙ ap (λ (state : model.State). command_turn state (value_of (unsearched y).state.keyboard.argument) c) (plain_rests y p none first))
      did.0 alone (again_prompted y p is none) (λ r. refl) (rw took at did.2))

  -- where it is what the question is for
  asked_step : is_answered p.question ≡ true → p.first ≡ [] → new ≡ resting (unsearched y) → IsByteStep d ks (unsearched y) new byte (befores.Prompt p) (Acts (byte_acts.Answer (value_of (unsearched y).state.keyboard.argument)))
  asked_step answers first same =
      acts_same (SeesNames d ks (unsearched y).user) (λ v. state_turn v (unsearched y).state byte) (unsearched y) new (resting (unsearched y)) same refl (none_stays (unsearched y).state (resting (unsearched y)).state refl) (befores.Prompt p) (byte_acts.Answer (value_of (unsearched y).state.keyboard.argument)) alone refl (refl, answers)
      (λ v sees. asked_at v y p byte is none first turn answers) refl (λ wants. again_prompted y p is none) (λ wants. refl) (λ h. cc)

  other_step : (step : ByteStep) → is_answered p.question ≡ true → p.first ≡ [] → IsAskedStep taken new p b (byte_acts.Answer (value_of taken.state.keyboard.argument)) step → IsByteStep d ks (unsearched y) new byte b step
  other_step step answers first did =
      prompt_was step (Acts (byte_acts.Answer (value_of (unsearched y).state.keyboard.argument))) (did.0 ∙ ap (λ (s : Session). Acts (byte_acts.Answer (value_of s.state.keyboard.argument))) took) did.1
      (asked_step answers first (did.2 ∙ ap resting took))

  -- where it is the first of two
  second_step : p.question ≡ ReplaceWhat → new ≡ prompting (second_input p.input) taken → IsByteStep d ks (unsearched y) new byte b Kept
  second_step of_c held =
      let it : Session = prompting (second_input p.input) (unsearched y) in
      kept_same (SeesNames d ks (unsearched y).user) (λ v. state_turn v (unsearched y).state byte) (unsearched y) new it (held ∙ ap (prompting (second_input p.input)) took) refl (none_stays (unsearched y).state it.state refl) alone
      (λ v sees. answered_at v y p byte ReplaceWhat is turn of_c ∙ ap (λ (w : Waiting). Keep (record (state_of it.state) { keys = keys_of w })) none) refl

  -- and where it is the second
  replacing_step : p.question ≡ ReplaceWith → new ≡ resting (unsearched y) → IsByteStep d ks (unsearched y) new byte (befores.Prompt p) (Acts byte_acts.StartReplacing)
  replacing_step of_c same =
      let byte_act : ByteAct = byte_acts.StartReplacing in
      acts_same (SeesNames d ks (unsearched y).user) (λ v. state_turn v (unsearched y).state byte) (unsearched y) new (resting (unsearched y)) same refl (none_stays (unsearched y).state (resting (unsearched y)).state refl) (befores.Prompt p) byte_act alone refl refl
      (λ v sees.
      answered_at v y p byte ReplaceWith is turn of_c
      ∙ ap (λ (w : Waiting). Do (record (deciding_state (befores.Prompt p) byte_act (state_of (resting (unsearched y)).state)) { keys = keys_of w }) (model_act (state_of (unsearched y).state) (befores.Prompt p) byte_act)) none)
      refl (λ wants. cc) (λ wants. cc) (λ h. refl)

  reply_step : (step : ByteStep) (c : Question) → p.question ≡ c → IsFirst c p.first → IsReplyStep c taken new p b step → IsByteStep d ks (unsearched y) new byte b step
  reply_step step RunWhich of_c first did = named_step step (find_command p.input) of_c first refl did
  reply_step step ReplaceWhat of_c first did = subst (IsByteStep d ks (unsearched y) new byte b) (sym did.0) (second_step of_c did.1)
  reply_step step ReplaceWith of_c first did = prompt_was step (Acts byte_acts.StartReplacing) did.0 did.1 (replacing_step of_c (did.2 ∙ ap resting took))
  reply_step step _ of_c first did = other_step step (ap is_answered of_c) first did

pub answers : (d : Directory) (ks : List MarkedBuffer) (y taken new : Session) (p q : PromptInput) (byte : ℕ) (b : ModeBefore) (step : ByteStep) → IsAlone (unsearched y).state.player → (unsearched y).state.prompt ≡ Some p → (q ≡ p) × (p.waiting ≡ NoKey) → IsFed p q byte Answered → taken ≡ unprompted (unsearched y) → IsFirst q.question q.first → IsAnswerStep taken new q b step → IsByteStep d ks (unsearched y) new byte b step
answers d ks y taken new p q byte b step alone is same turn took first did =
    reply_step d ks y taken new p byte b alone is same.1 (subst (λ (k : PromptInput). IsFed p k byte Answered) same.0 turn) took step p.question refl (subst (λ (k : PromptInput). IsFirst k.question k.first) same.0 first) (subst (λ (k : PromptInput). IsAnswerStep taken new k b step) same.0 did)

-- WITHOUT A SEARCH

pub still_step : (d : Directory) (ks : List MarkedBuffer) (y new : Session) (byte : ℕ) (b : ModeBefore) (step : ByteStep) → y ≡ unsearched y → IsByteStep d ks (unsearched y) new byte b step → IsByteStep d ks y new byte b step
still_step d ks y new byte b step still s = subst (λ (z : Session). IsByteStep d ks z new byte b step) (sym still) s

-- WHAT AN ANSWER DOES

answer_act : {X : Type 0} (f : Act → X) (state : model.State) (b : ModeBefore) (p : PromptInput) (n : Option ℕ) (c : Question) (typed : List ℕ) → p ≡ asked_of b → c ≡ p.question → typed ≡ p.input → f (Run (command_for c) n (meant (command_for c) state.pattern typed)) ≡ f (model_act state b (byte_acts.Answer n))
answer_act f state b p n c typed asked question input =
    ap (λ (q : Question). f (Run (command_for q) n (meant (command_for q) state.pattern typed))) question
    ∙ ap (λ (t : List ℕ). f (Run (command_for p.question) n (meant (command_for p.question) state.pattern t))) input
    ∙ ap (λ (q : PromptInput). f (Run (command_for q.question) n (meant (command_for q.question) state.pattern q.input))) asked

pub answer_done : (touched : Touched) (old new : World) (before after : StoreTold) (id : ℕ) (state : model.State) (b : ModeBefore) (p : PromptInput) (n : Option ℕ) (c : Question) (typed : List ℕ) → p ≡ asked_of b → c ≡ p.question → typed ≡ p.input
    → DoneBy touched old new before after id (Run (command_for c) n (meant (command_for c) state.pattern typed)) → DoneBy touched old new before after id (model_act state b (byte_acts.Answer n))
answer_done touched old new before after id state b p n c typed asked question input did = subst (DoneBy touched old new before after id) (answer_act (λ (e : Act). e) state b p n c typed asked question input) did

pub answer_may : (w : World) (id : ℕ) (state : model.State) (b : ModeBefore) (p : PromptInput) (n : Option ℕ) (c : Question) (typed : List ℕ) → p ≡ asked_of b → c ≡ p.question → typed ≡ p.input → may_be_refused (outcome_in w id (Run (command_for c) n (meant (command_for c) state.pattern typed)) true) ≡ true → may_be_refused (outcome_in w id (model_act state b (byte_acts.Answer n)) true) ≡ true
answer_may w id state b p n c typed asked question input may = sym (answer_act (λ (a : Act). may_be_refused (outcome_in w id a true)) state b p n c typed asked question input) ∙ may
