-- The insertion of a buffer's text: what the act comes to, and that what is done is the act.
use Rattle.std.proofs.Common.{◌≡◌, ℕ, Bool, true, false, cond, List, [], ◌∷◌, length, map, Option, Some, None, refl, sym, ap, ◌∙◌, eq-eqb}
use Rattle.std.specs.Prelude.{IfSome, Ok}
use Rattle.std.specs.Option.{option_map}
use Rattle.mgs_model.specs.Access.{Decider, Directory, allows, any_right, decider, decision_by}
use Rattle.mgs_model.specs.Rights.{rights_in}
use Rattle.mgs_model.specs.World.{Buffer, State}
use Rattle.mgs_model.specs.View.{BufferSeen, View, buffer_seen, find_seen, full_if, positions_if, reads_found, serial_told, size_told, text_in, told_if, view}
use Rattle.mgs_model.specs.Outcome.{Outcome, Run}
use Rattle.mgs_model.specs.Acts.{Target, acts_at, around, copy_needs, deciders_found, edits, fails, here, insertion_right, judged, or_else, outcome, permitted, target}
use Rattle.mgs_model.specs.Plans.{inserted}
use Rattle.mgs_model.specs.declared.entry.Decision.{Decision}
use Rattle.mgs_model.specs.declared.entry.Decision.TheVariants.{Granted}
use Rattle.mgs_model.specs.declared.echo_text.Message.{Message}
use Rattle.mgs_model.specs.declared.right.Right.{Right}
use Rattle.mgs_model.specs.declared.right.Right.TheVariants.{AppendData, ReadData}
use Rattle.mgs_model.specs.declared.session.ByName.TheVariants.{InsertBuffer}
use Rattle.mgs_model.specs.declared.session.Command.TheVariants.{Named}
use Rattle.mgs_model.proofs.Deciding.{granted_each}
use Rattle.mgs_buffers.specs.MarkedBuffer.{HasBuffer, MarkedBuffer, has_buffer, mark_at, marked_at}
use Rattle.mgs_windows.specs.declared.WindowMarks.{WindowMarks}
use Rattle.mgs_session.specs.Sessions.{window_marks_of}
use Rattle.mgs_session.specs.declared.Session.{Session}
use Rattle.mgs_plan.specs.Actions.{AreMarks, edit_outcome, insertion_mask, place_in}
use Rattle.mgs_plan.specs.Inserting.{copy_outcome, insertion_of, insertion_outcome, outcome_from}
use Rattle.mgs_model.specs.declared.echo_text.Message.TheVariants.{Says}
use Rattle.mgs_model.specs.declared.echo_text.Notice.TheVariants.{NoBuffer}
use Rattle.mgs_plan.specs.Deciding.{IsOutcome, outcome_read}
use Rattle.mgs_plan.specs.declared.outcome.Outcome as code
use Rattle.mgs_plan.specs.declared.outcome.Outcome.TheVariants.{Fails}
use Rattle.mgs_world.proofs.Soundness.{mark_is_kept}
use Rattle.mgs_world.specs.Worlds.{buffers_of, state_of, session_of, world_of}
use Rattle.mgs_world.proofs.Found.{found_buffer, found_seen, name_kept, unseen}
use Rattle.mgs_world.proofs.Marks.{not_both}
use Rattle.mgs_plan.proofs.Outcomes.{any_append, any_read, first_granted, judged_here, permitted_same, selected_none, selected_some, target_at}
use Rattle.mgs_plan.proofs.Stored.{unstored}

-- DECISIONS

pub granted_both : (d e : Decision) → or_else d e ≡ Granted → (d ≡ Granted) × (e ≡ Granted)
granted_both Granted e h = (refl, h)
granted_both _ e h = cc

pub denied_first : (state : State) (d e : Decision) (message : Message) → ((o : Outcome) → permitted state d o ≡ fails state message) → (o : Outcome) → permitted state (or_else d e) o ≡ fails state message
denied_first state Granted e message told o = told (permitted state e o)
denied_first state _ e message told o = told o

-- WHAT IS TOLD SUFFICES

-- an insertion at a place, in a buffer of which so much is told
abbrev put_at : State → Decision → (Right → Decider) → List ℕ → ℕ → ℕ → List ℕ → ℕ → Outcome
put_at state s d name size serial put place =
    permitted state (or_else s (decision_by d (rights_in (insertion_mask place size)))) (edit_outcome state name size serial (Ok (insertion_of place put)))

-- nothing is told where nothing is granted, and then an insertion is not permitted anyhow
none_told : (state : State) (s : Decision) (d : Right → Decider) (b : Buffer) (name : List ℕ) (put : List ℕ) → any_right d ≡ false → put_at state s d name 0 0 put 0 ≡ put_at state s d name (length b.text) b.serial put (length b.text)
none_told state s d b name put none =
    permitted_same state (or_else s (decision_by d (AppendData ∷ []))) _ _ (λ e. not_both (any_right d) (any_append d (granted_each d (AppendData ∷ []) (granted_both s _ e).1).0) none)
    ∙ sym (ap (λ (end : Bool). permitted state (or_else s (decision_by d (rights_in (cond end 4 2)))) (edit_outcome state name (length b.text) b.serial (Ok (insertion_of (length b.text) put)))) (eq-eqb (length b.text) (length b.text) refl))

told_there : (state : State) (s : Decision) (d : Right → Decider) (b : Buffer) (name : List ℕ) (put : List ℕ) (point : ℕ) (mark : Option ℕ) (top : ℕ)
    → (let told = told_if (any_right d) b in put_at state s d name (size_told told) (serial_told told) put (acts_at (positions_if (allows (d ReadData)) point mark top) (size_told told)) ≡ put_at state s d name (length b.text) b.serial put (place_in (allows (d ReadData)) point (length b.text)))
told_there state s d b name put point mark top = go (any_right d) (allows (d ReadData)) refl refl
  where
    go : (a r : Bool) → any_right d ≡ a → allows (d ReadData) ≡ r → put_at state s d name (size_told (told_if a b)) (serial_told (told_if a b)) put (acts_at (positions_if r point mark top) (size_told (told_if a b))) ≡ put_at state s d name (length b.text) b.serial put (place_in r point (length b.text))
    go true true p q = refl
    go true false p q = refl
    go false true p q = not_both (any_right d) (any_read d q) p
    go false false p q = none_told state s d b name put p

-- the source's text, where it may be read
source_told : (state : State) (d : Right → Decider) (e : Decision) (b : Buffer) (outcome_by : List ℕ → Outcome) → permitted state (or_else (decision_by d (rights_in 1)) e) (outcome_by (text_in (full_if (allows (d ReadData)) b))) ≡ permitted state (or_else (decision_by d (rights_in 1)) e) (outcome_by b.text)
source_told state d e b outcome_by =
    permitted_same state (or_else (decision_by d (rights_in 1)) e) _ _ (λ g. ap (λ (r : Bool). outcome_by (text_in (full_if r b))) (first_granted d [] (granted_both _ e g).0))

-- WHAT THE ACT COMES TO

abbrev insert_in : View → Option ℕ → List ℕ → Option Target → Option BufferSeen → Outcome
insert_in v n typed t o =
    permitted v.session.state (judged v (elim t [ None ↦ [] | Some t ↦ copy_needs o typed t ]))
    (edits v.session.state t (λ t. inserted (option_map (λ b. text_in b.full) o) (around v.session n typed t)))

insert_seen : (v : View) (n : Option ℕ) (typed : List ℕ) → outcome v (Run (Named InsertBuffer) n typed) true ≡ insert_in v n typed (target v) (find_seen typed v.buffers)
unfolding outcome
insert_seen v n typed = refl

-- the requests, by those who decide
both_seen : (v : View) (n : Option ℕ) (typed : List ℕ) (t : Target) (b : BufferSeen) → find_seen typed v.buffers ≡ Some b → find_seen t.buffer.name v.buffers ≡ Some t.buffer
    → insert_in v n typed (Some t) (Some b) ≡ put_at v.session.state (decision_by b.deciders (rights_in 1)) t.buffer.deciders t.buffer.name (size_told t.buffer.told) (serial_told t.buffer.told) (text_in b.full) (acts_at t.window.positions (size_told t.buffer.told))
both_seen v n typed t b found kept =
    let done = edit_outcome v.session.state t.buffer.name (size_told t.buffer.told) (serial_told t.buffer.told) (Ok (insertion_of (acts_at t.window.positions (size_told t.buffer.told)) (text_in b.full))) in
    ap (λ o. permitted v.session.state (or_else (decision_by (deciders_found o) (rights_in 1)) (judged v (here (Some t) insertion_right))) done) found
    ∙ ap (λ d. permitted v.session.state (or_else (decision_by b.deciders (rights_in 1)) d) done) (judged_here v t insertion_right kept)

module _ (directory : Directory) (ks : List MarkedBuffer) (xs : List Session) (next n : Option ℕ) (h : Session) (typed : List ℕ) where
  abbrev seen : View
  seen = view (world_of directory ks xs next) (session_of ks h)

  -- there is a source, and a window's marks
  copied_so : (height : ℕ) (x : WindowMarks) → HasBuffer x.name ks → HasBuffer typed ks → insert_in seen n typed (Some (target_at directory ks h.user height x)) (Some (buffer_seen directory h.user (marked_at typed ks).buffer)) ≡ copy_outcome directory ks (state_of h.state) h.user typed x
  copied_so height x kept there =
      let state = state_of h.state in
      let b = (marked_at x.name ks).buffer in
      let k = (marked_at typed ks).buffer in
      let d = decider directory b.owners h.user b.entries in
      let from = decider directory k.owners h.user k.entries in
      let s = decision_by from (rights_in 1) in
      let told = told_if (any_right d) b in
      let point = mark_at x.name ks x.point in
      let mark = option_map (mark_at x.name ks) x.mark in
      let top = mark_at x.name ks x.top in
      both_seen seen n typed (target_at directory ks h.user height x) (buffer_seen directory h.user k) (found_seen directory h.user typed ks there)
      (ap (λ m. find_seen m (map (buffer_seen directory h.user) (buffers_of ks))) (name_kept x.name ks kept) ∙ found_seen directory h.user x.name ks kept)
      ∙ ap (λ (r : Bool). put_at state s d b.name (size_told told) (serial_told told) (text_in (full_if (allows (from ReadData)) k)) (acts_at (positions_if r point mark top) (size_told told))) (ap (reads_found directory h.user) (found_buffer x.name ks kept))
      ∙ told_there state s d b b.name (text_in (full_if (allows (from ReadData)) k)) point mark top
      ∙ source_told state from (decision_by d (rights_in (insertion_mask (place_in (allows (d ReadData)) point (length b.text)) (length b.text)))) k (λ put. edit_outcome state b.name (length b.text) b.serial (Ok (insertion_of (place_in (allows (d ReadData)) point (length b.text)) put)))
      ∙ ap (λ (m : List ℕ). put_at state s d m (length b.text) b.serial k.text (place_in (allows (d ReadData)) point (length b.text))) (name_kept x.name ks kept)

  shown_so : (x : WindowMarks) → window_marks_of h ≡ Some x → HasBuffer x.name ks → outcome seen (Run (Named InsertBuffer) n typed) true ≡ outcome_from directory ks (state_of h.state) h.user typed x (has_buffer typed ks)
  shown_so x sel kept =
      let got = selected_some directory ks xs next h x sel kept in
      insert_seen seen n typed
      ∙ ap (λ t. insert_in seen n typed t (find_seen typed seen.buffers)) got.1
      ∙ go (has_buffer typed ks) refl got.0
    where
      go : (b : Bool) → has_buffer typed ks ≡ b → (height : ℕ) → insert_in seen n typed (Some (target_at directory ks h.user height x)) (find_seen typed seen.buffers) ≡ outcome_from directory ks (state_of h.state) h.user typed x b
      go true there height =
          ap (insert_in seen n typed (Some (target_at directory ks h.user height x))) (found_seen directory h.user typed ks there)
          ∙ copied_so height x kept there
      go false free height = ap (insert_in seen n typed (Some (target_at directory ks h.user height x))) (unseen directory h.user typed ks free)

  pub insertion_known : IfSome (window_marks_of h) (λ x. HasBuffer x.name ks) → outcome seen (Run (Named InsertBuffer) n typed) true ≡ insertion_outcome directory ks (state_of h.state) h.user typed (window_marks_of h)
  insertion_known kept = go (window_marks_of h) refl kept
    where
      go : (s : Option WindowMarks) → window_marks_of h ≡ s → IfSome s (λ x. HasBuffer x.name ks) → outcome seen (Run (Named InsertBuffer) n typed) true ≡ insertion_outcome directory ks (state_of h.state) h.user typed s
      go None is there = insert_seen seen n typed ∙ ap (λ t. insert_in seen n typed t (find_seen typed seen.buffers)) (selected_none directory ks xs next h is)
      go (Some x) is there = shown_so x is there

  -- FOR A SESSION

  pub insert_unshown : window_marks_of h ≡ None → IsOutcome directory ks xs next h (Run (Named InsertBuffer) n typed) (Fails (Says NoBuffer))
  insert_unshown none = λ stored.
      unstored seen (Run (Named InsertBuffer) n typed) stored refl
      ∙ insertion_known (rw none tt) ∙ ap (insertion_outcome directory ks (state_of h.state) h.user typed) none

  pub insert_planned : (x : WindowMarks) (o : code.Outcome) → window_marks_of h ≡ Some x → AreMarks ks x
      → ((v : View) (stored : Bool) → outcome_from directory ks v.session.state h.user typed x (has_buffer typed ks) ≡ outcome_read ks v o stored)
      → IsOutcome directory ks xs next h (Run (Named InsertBuffer) n typed) o
  insert_planned x o sel marks read = λ stored.
      unstored seen (Run (Named InsertBuffer) n typed) stored refl
      ∙ insertion_known (rw sel (mark_is_kept x.name x.point ks marks.point))
      ∙ ap (insertion_outcome directory ks (state_of h.state) h.user typed) sel
      ∙ read seen stored
