-- What is done for the session at an index, by what was decided for it.
use Rattle.std.proofs.Common.{◌≡◌, ℕ, zero, suc, ◌<◌, Bool, true, List, [], ◌∷◌, length, map, Option, Some, None, get_or, refl, sym, ap, subst, ◌∙◌, arith}
use Rattle.std.specs.Prelude.{slice_get, slice_set, IfSome, OnOk, Result, Ok, Err}
use Rattle.std.specs.List.{position_or_len}
use Rattle.std.specs.Option.{option_and_then}
use Rattle.std.proofs.lemmas.List.{get_or_default}
use Rattle.std.proofs.lemmas.Option.{get_or_from_slice_get, slice_get-get_or}
use Rattle.mgs_model.specs.Access.{Directory}
use Rattle.mgs_laws.specs.Apart.{touched_by}
use Rattle.mgs_model.specs.Apply.{applied, apply, outcome_in}
use Rattle.mgs_model.specs.Events.{effect_in}
use Rattle.mgs_laws.specs.Refusals.{may_be_refused, takes_memory}
use Rattle.mgs_model.specs.Outcome.{Act, Effect, Save, SetList, SetOwners, Create, Kill}
use Rattle.mgs_model.specs.Outcome as outcomes
use Rattle.mgs_model.specs.Plans.{acted_state}
use Rattle.mgs_model.specs.World.{State}
use Rattle.mgs_model.specs.declared.session.Kind.TheVariants.{Other}
use Rattle.mgs_model.specs.declared.session.Question.{Question}
use Rattle.mgs_model.specs.declared.entry.Decision.{Decision}
use Rattle.mgs_model.specs.declared.entry.Decision.TheVariants.{Granted}
use Rattle.mgs_model.specs.declared.touched.Touched.{Touched}
use Rattle.mgs_model.specs.declared.touched.Touched.TheVariants.{Nowhere}
use Rattle.mgs_births.specs.Reports.{Did}
use Rattle.mgs_births.specs.Telling.{IsSilent, StoreTold, Tells}
use Rattle.mgs_births.proofs.Tells.{tells_quiet}
use Rattle.mgs_buffers.specs.MarkedBuffer.{MarkedBuffer}
use Rattle.mgs_buffers.specs.Permitting.{PermitAnswers}
use Rattle.mgs_session.specs.Sessions.{window_marks_of}
use Rattle.mgs_session.specs.declared.State as held
use Rattle.mgs_session.specs.declared.Session.{Session}
use Rattle.mgs_windows.specs.declared.WindowMarks.{WindowMarks}
use Rattle.mgs_plan.specs.Actions.{AreMarks}
use Rattle.mgs_plan.specs.Deciding.{CanPerform, IsOutcome, outcome_read, view_at}
use Rattle.mgs_plan.specs.Searching.{answer_act}
use Rattle.mgs_plan.specs.declared.outcome.Outcome.{Outcome}
use Rattle.mgs_plan.proofs.Commands.{outcome_answered}
use Rattle.mgs_plan.proofs.Deeds.{acting_marks}
use Rattle.mgs_plan.proofs.Tells.{tells_known}
use Rattle.mgs_world.specs.Sound.{IsSound, session_uses}
use Rattle.mgs_act.specs.Doing.{CanDo, DoneBy, IsDone, IsQuietlyDone, IsReady}
use Rattle.mgs_world.proofs.Owns.{at_rest}
use Rattle.mgs_world.proofs.Soundness.{sound_set}
use Rattle.mgs_world.specs.Worlds.{idle, state_at, state_of, state_or_first, session_id, world_of}

-- the session at an index within
pub here_is : (xs : List Session) (at : ℕ) (r h : Session) → at < length xs → slice_get xs at ≡ Some h → get_or xs at r ≡ h
here_is xs at r h within found = get_or_default xs at r h within ∙ get_or_from_slice_get xs at h h found

pub got : (xs : List Session) (at : ℕ) → at < length xs → (h : Session) × (slice_get xs at ≡ Some h)
got [] at within = absurd (omega (arith, within))
got (x ∷ xs) zero within = (x, refl)
got (x ∷ xs) (suc at) within = got xs at (omega (arith, within))

-- what can be done for it
pub can_at : {directory : Directory} {at : ℕ} {ks : List MarkedBuffer} {xs : List Session} {o : Outcome} → IsReady directory at ks xs o → (r : Session) → CanPerform directory ks (get_or xs at r) o
can_at {directory} {at} {ks} {xs} ready r = ready.can (get_or xs at r) (slice_get-get_or xs at r ready.within)

-- and what was to be for any session that is there
pub can_here : (directory : Directory) (at : ℕ) (ks : List MarkedBuffer) (xs : List Session) (r : Session) (o : Outcome) → at < length xs → CanPerform directory ks (get_or xs at r) o → CanDo directory at ks xs o
can_here directory at ks xs r o within can = λ h found. subst (λ x. CanPerform directory ks x o) (here_is xs at r h within found) can

-- the marks of its selected window are there
pub marks_here : (ks : List MarkedBuffer) (xs : List Session) (at : ℕ) (r : Session) → at < length xs → IsSound ks xs → IfSome (window_marks_of (get_or xs at r)) (AreMarks ks)
marks_here ks xs at r within sound = go (window_marks_of (get_or xs at r)) refl
  where
    go : (s : Option WindowMarks) → window_marks_of (get_or xs at r) ≡ s → IfSome s (AreMarks ks)
    go None is = tt
    go (Some x) is = acting_marks ks xs at x sound (ap (option_and_then window_marks_of) (slice_get-get_or xs at r within) ∙ is)

-- the answer to a question, by what the session at an index holds
pub asked_at : (directory : Directory) (ks : List MarkedBuffer) (xs : List Session) (at : ℕ) (r : Session) (q : Question) (n : Option ℕ) (typed : List ℕ) (o : Outcome) → at < length xs → ((next : Option ℕ) → IsOutcome directory ks xs next (get_or xs at r) (answer_act q n typed (state_of (get_or xs at r).state)) o)
    → (next : Option ℕ) → IsOutcome directory ks xs next (get_or xs at r) (answer_act q n typed (state_at at xs)) o
asked_at directory ks xs at r q n typed o within planned =
    subst (λ (state : State). (next : Option ℕ) → IsOutcome directory ks xs next (get_or xs at r) (answer_act q n typed state) o) (sym (ap state_or_first (slice_get-get_or xs at r within))) planned

-- RESULTS

-- what is granted is done
pub granted_done : {P : Type 0} (r : Result (Unit {0}) Decision) (due : Decision) → PermitAnswers r due → due ≡ Granted → OnOk r P → P
granted_done (Ok done) due answer granted ok = ok
granted_done (Err d) due answer granted ok = absurd (answer.1 (sym answer.0 ∙ granted))

-- WHAT ASKS NO STORE

-- what is told of what was done
pub tellingly : (directory : Directory) (at : ℕ) (o : Outcome) (ks ls : List MarkedBuffer) (xs ys : List Session) (touched : Touched) (s t : StoreTold)
    → ((id : ℕ) (next : Option ℕ) (h : Session) → at ≡ position_or_len (session_id id) xs → slice_get xs at ≡ Some h
    → (let p = outcome_read ks (view_at directory ks xs next h) o true in (world_of directory ls ys next ≡ apply (world_of directory ks xs next) id p) × (touched ≡ touched_by p.effect) × Tells (Did p.effect ∷ []) s t))
    → IsDone directory at o ks xs s ls ys t touched
tellingly directory at o ks ls xs ys touched s t does = record {
  stored = true;
  fault = λ e. cc;
  does = λ id next h place found. let it = does id next h place found in record { world = it.0; touches = it.1; tells = it.2 };
}

pub quietly : (directory : Directory) (at : ℕ) (o : Outcome) (ks ls : List MarkedBuffer) (xs ys : List Session) (touched : Touched)
    → ((id : ℕ) (next : Option ℕ) (h : Session) → at ≡ position_or_len (session_id id) xs → slice_get xs at ≡ Some h
    → (let p = outcome_read ks (view_at directory ks xs next h) o true in (world_of directory ls ys next ≡ apply (world_of directory ks xs next) id p) × (touched ≡ touched_by p.effect) × IsSilent p.effect))
    → IsQuietlyDone directory at o ks xs ls ys touched
quietly directory at o ks ls xs ys touched does = λ t. tellingly directory at o ks ls xs ys touched t t
    (λ id next h place found. let it = does id next h place found in (it.0, it.1, tells_quiet t (outcome_read ks (view_at directory ks xs next h) o true).effect it.2))

-- what touches nothing is silent
pub nowhere_silent : (e : Effect) → touched_by e ≡ Nowhere → IsSilent e
nowhere_silent (Save name text) is = cc
nowhere_silent (SetList name entries) is = cc
nowhere_silent (SetOwners name new) is = cc
nowhere_silent (Create name owner) is = cc
nowhere_silent (Kill name) is = cc
nowhere_silent _ is = record { saves = refl; births = λ b. refl; tape = λ t. refl }

pub quiet_done : (directory : Directory) (at : ℕ) (o p : Outcome) (ks ls : List MarkedBuffer) (xs ys : List Session) (t : StoreTold) → o ≡ p
    → ((id : ℕ) (next : Option ℕ) (h : Session) → at ≡ position_or_len (session_id id) xs → slice_get xs at ≡ Some h
    → (let q = outcome_read ks (view_at directory ks xs next h) p true in (world_of directory ls ys next ≡ apply (world_of directory ks xs next) id q) × (touched_by q.effect ≡ Nowhere)))
    → IsDone directory at o ks xs t ls ys t Nowhere
quiet_done directory at o p ks ls xs ys t is does =
    subst (λ q. IsDone directory at q ks xs t ls ys t Nowhere) (sym is)
    (quietly directory at p ks ls xs ys Nowhere (λ id next h place found. let it = does id next h place found in (it.0, sym it.1, nowhere_silent _ it.1)) t)

-- and is done to the session alone, which uses the marks that it used
pub written_done : {directory : Directory} {at : ℕ} {ks : List MarkedBuffer} {xs : List Session} {o : Outcome} (p : Outcome) (f : Session → Session) (r y : Session) → IsReady directory at ks xs o → o ≡ p → y ≡ f (get_or xs at r) → ((h : Session) (n : List ℕ) (i : ℕ) → session_uses n i (f h) ≡ session_uses n i h)
    → ((id : ℕ) (next : Option ℕ) (h : Session) → at ≡ position_or_len (session_id id) xs → slice_get xs at ≡ Some h
    → (let q = outcome_read ks (view_at directory ks xs next h) p true in (world_of directory ks (slice_set xs at (f h)) next ≡ apply (world_of directory ks xs next) id q) × (touched_by q.effect ≡ Nowhere)))
    → IsSound ks (slice_set xs at y) × IsQuietlyDone directory at o ks xs ks (slice_set xs at y) Nowhere
written_done {directory} {at} {ks} {xs} {o} p f r y ready is new uses does =
    let h = get_or xs at r in (
      rw new (sound_set ks xs at h (f h) (sym (get_or_from_slice_get xs at h h (slice_get-get_or xs at r ready.within))) (uses h) ready.sound),
      λ t. quiet_done directory at o p ks ks xs _ t is (λ id next h place found.
          let it = does id next h place found in (ap (λ z. world_of directory ks (slice_set xs at z) next) (new ∙ ap f (here_is xs at r h ready.within found)) ∙ it.0, it.1)),
    )

-- A COMMAND OF NO KIND WAS DONE by a session at rest
pub fresh_acted : (o : held.State) → state_of o ≡ idle (state_of o) → state_of (record o { kind = Other }) ≡ acted_state (state_of o)
fresh_acted o fresh = at_rest (λ (state : State). record state { kind = Other }) acted_state (λ state. refl) (state_of o) fresh

-- THE ACT

module _ (directory : Directory) (at : ℕ) (c : Act) (ks : List MarkedBuffer) (xs : List Session) (within : at < length xs) where
  module _ (o : Outcome) (r : Session) (planned : (next : Option ℕ) → IsOutcome directory ks xs next (get_or xs at r) c o) where
    found : slice_get xs at ≡ Some (get_or xs at r)
    found = slice_get-get_or xs at r within

    decided_in : (id : ℕ) (next : Option ℕ) (stored : Bool) → at ≡ position_or_len (session_id id) xs → outcome_in (world_of directory ks xs next) id c stored ≡ Some (outcome_read ks (view_at directory ks xs next (get_or xs at r)) o stored)
    decided_in id next stored place = outcome_answered directory ks xs next id at (get_or xs at r) c stored place within found ∙ ap (λ (p : outcomes.Outcome). Some p) (planned next stored)

    pub did : (ls : List MarkedBuffer) (ys : List Session) (before after : StoreTold) (touched : Touched) → IsDone directory at o ks xs before ls ys after touched → (id : ℕ) (next : Option ℕ) → at ≡ position_or_len (session_id id) xs → DoneBy touched (world_of directory ks xs next) (world_of directory ls ys next) before after id c
    did ls ys before after touched done id next place =
        let w = world_of directory ks xs next in
        let p = outcome_read ks (view_at directory ks xs next (get_or xs at r)) o done.stored in
        let known = decided_in id next done.stored place in
        let does = done.does id next (get_or xs at r) place found in
        record {
          acted = record {
            stored = done.stored;
            world = does.world ∙ sym (ap (applied w id) known);
            fault = done.fault;
            tells = subst (λ q. Tells (map Did (effect_in q)) before after) (sym known) does.tells;
          };
          tells = tells_known _ p touched known does.touches;
        }

    pub may_decided : ((directory : Directory) (id : ℕ) (next : Option ℕ) (h : Session) → at ≡ position_or_len (session_id id) xs → slice_get xs at ≡ Some h → takes_memory (outcome_read ks (view_at directory ks xs next h) o true) ≡ true) → (id : ℕ) (next : Option ℕ) → at ≡ position_or_len (session_id id) xs → may_be_refused (outcome_in (world_of directory ks xs next) id c true) ≡ true
    may_decided takes id next place = ap may_be_refused (decided_in id next true place) ∙ takes directory id next (get_or xs at r) place found
