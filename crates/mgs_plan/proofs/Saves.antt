-- What a save comes to.
use Rattle.std.proofs.Common.{◌≡◌, ℕ, Bool, true, false, cond, List, [], ◌∷◌, map, Option, Some, None, refl, ap, subst, ◌∙◌}
use Rattle.std.specs.Prelude.{not}
use Rattle.mgs_model.specs.Access.{Directory, Decider, allows, any_right, decider, decision_by}
use Rattle.mgs_model.specs.Rights.{rights_in}
use Rattle.mgs_model.specs.World.{Buffer}
use Rattle.mgs_model.specs.World as model
use Rattle.mgs_model.specs.View.{buffer_seen, find_seen, full_if, text_in, told_if, view}
use Rattle.mgs_model.specs.Outcome.{Keep_kill, Outcome, Run, Save, Stay}
use Rattle.mgs_model.specs.Plans.{acted_state}
use Rattle.mgs_model.specs.Acts.{fails, has_file, here, judged, outcome, permitted, saves}
use Rattle.mgs_model.specs.declared.right.Right.{Right}
use Rattle.mgs_model.specs.declared.right.Right.TheVariants.{ReadData, WriteData}
use Rattle.mgs_model.specs.declared.entry.Decision.TheVariants.{Granted}
use Rattle.mgs_model.specs.declared.echo_text.Message.{Message}
use Rattle.mgs_model.specs.declared.echo_text.Message.TheVariants.{Says, Wrote}
use Rattle.mgs_model.specs.declared.echo_text.Notice.TheVariants.{InMacro, NoBuffer, NoFile, SaveFailed}
use Rattle.mgs_model.specs.declared.session.Command.TheVariants.{SaveBuffer}
use Rattle.mgs_buffers.specs.MarkedBuffer.{HasBuffer, MarkedBuffer, marked_at}
use Rattle.mgs_windows.specs.declared.WindowMarks.{WindowMarks}
use Rattle.mgs_session.specs.Sessions.{window_marks_of}
use Rattle.mgs_session.specs.declared.Session.{Session}
use Rattle.mgs_world.specs.Worlds.{buffers_of, state_of, session_of, world_of}
use Rattle.mgs_world.proofs.Found.{found_seen, name_kept}
use Rattle.mgs_plan.specs.Deciding.{IsOutcome, view_at}
use Rattle.mgs_plan.specs.Saving.{IsSaveLeft, IsSaveRefused, save_answered, save_outcome}
use Rattle.mgs_plan.specs.declared.outcome.Outcome.TheVariants as coded
use Rattle.mgs_plan.proofs.Outcomes.{any_read, first_granted, judged_here, permitted_same, selected_none, selected_some, target_at}

-- what it comes to by what is told and what is read of the buffer
abbrev saves_of : model.State → Bool → Bool → Buffer → List ℕ → Bool → Outcome
saves_of state told read b name stored =
    cond state.playing (fails state (Says InMacro))
    (cond (not (has_file (told_if told b))) (fails state (Says NoFile))
    (cond (not stored) (fails state (Says SaveFailed))
    (record { state = record (acted_state state) { echo = Wrote name }; kill = Keep_kill; arrange = Stay; effect = Save name (text_in (full_if read b)) })))

saves_told : (state : model.State) (b : Buffer) (name : List ℕ) (stored : Bool) → saves_of state true true b name stored ≡ cond state.playing (fails state (Says InMacro)) (cond (not b.file) (fails state (Says NoFile)) (save_answered state name b.text stored))
saves_told state b name true = refl
saves_told state b name false = refl

-- where reading and writing are granted, all is told
saves_granted : (state : model.State) (d : Right → Decider) (b : Buffer) (name : List ℕ) (stored : Bool) → decision_by d (rights_in 3) ≡ Granted → saves_of state (any_right d) (allows (d ReadData)) b name stored ≡ cond state.playing (fails state (Says InMacro)) (cond (not b.file) (fails state (Says NoFile)) (save_answered state name b.text stored))
saves_granted state d b name stored e =
    let read = first_granted d (WriteData ∷ []) e in
    ap (λ (r : Bool). saves_of state (any_right d) r b name stored) read
    ∙ ap (λ (a : Bool). saves_of state a true b name stored) (any_read d read)
    ∙ saves_told state b name stored

save_known : (directory : Directory) (ks : List MarkedBuffer) (xs : List Session) (next : Option ℕ) (h : Session) (x : WindowMarks) (n : Option ℕ) (stored : Bool) → window_marks_of h ≡ Some x → HasBuffer x.name ks → outcome (view (world_of directory ks xs next) (session_of ks h)) (Run SaveBuffer n []) stored ≡ save_outcome directory h.user x.name ks h.state.player.playing (state_of h.state) stored
unfolding outcome
save_known directory ks xs next h x n stored sel kept =
    let v = view (world_of directory ks xs next) (session_of ks h) in
    let b = (marked_at x.name ks).buffer in
    let d = decider directory b.owners h.user b.entries in
    let seen = selected_some directory ks xs next h x sel kept in
    let t = target_at directory ks h.user seen.0 x in
    let found = ap (λ m. find_seen m (map (buffer_seen directory h.user) (buffers_of ks))) (name_kept x.name ks kept) ∙ found_seen directory h.user x.name ks kept in
    ap (λ o. permitted v.session.state (judged v (here o (λ t. 3))) (saves v.session.state o stored)) seen.1
    ∙ ap (λ k. permitted v.session.state k (saves v.session.state (Some t) stored)) (judged_here v t (λ t. 3) found)
    ∙ permitted_same (state_of h.state) (decision_by d (rights_in 3)) _ _ (λ e. saves_granted (state_of h.state) d b b.name stored e)
    ∙ ap (λ (m : List ℕ). permitted (state_of h.state) (decision_by d (rights_in 3)) (cond h.state.player.playing (fails (state_of h.state) (Says InMacro)) (cond (not b.file) (fails (state_of h.state) (Says NoFile)) (save_answered (state_of h.state) m b.text stored)))) (name_kept x.name ks kept)

-- FOR A SESSION

module _ (directory : Directory) (ks : List MarkedBuffer) (xs : List Session) (next n : Option ℕ) (h : Session) where
  pub save_unshown : window_marks_of h ≡ None → IsOutcome directory ks xs next h (Run SaveBuffer n []) (coded.Fails (Says NoBuffer))
  unfolding outcome
  save_unshown none = λ stored. let v = view_at directory ks xs next h in ap (λ o. permitted v.session.state (judged v (here o (λ t. 3))) (saves v.session.state o stored)) (selected_none directory ks xs next h none)

  module _ (x : WindowMarks) (playing : Bool) (sel : window_marks_of h ≡ Some x) (kept : HasBuffer x.name ks) (plays : playing ≡ h.state.player.playing) where
    pub save_refused : (message : Message) → IsSaveRefused directory h.user x.name ks playing message → IsOutcome directory ks xs next h (Run SaveBuffer n []) (coded.Fails message)
    save_refused message refused = λ stored.
        save_known directory ks xs next h x n stored sel kept
        ∙ subst (λ (p : Bool). save_outcome directory h.user x.name ks p (state_of h.state) stored ≡ fails (state_of h.state) message) plays (refused (state_of h.state) stored)

    pub save_planned : IsSaveLeft directory h.user x.name ks playing → IsOutcome directory ks xs next h (Run SaveBuffer n []) (coded.Saves x.name)
    save_planned granted = λ stored.
        save_known directory ks xs next h x n stored sel kept
        ∙ subst (λ (p : Bool). save_outcome directory h.user x.name ks p (state_of h.state) stored ≡ save_answered (state_of h.state) x.name (marked_at x.name ks).buffer.text stored) plays (granted (state_of h.state) stored)
