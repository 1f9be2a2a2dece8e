-- What a command on a buffer of a name comes to, whichever the command.
use Rattle.std.proofs.Common.{◌≡◌, ℕ, Bool, false, List, [], ◌∷◌, length, Option, Some, None, ap, subst, ◌∙◌}
use Rattle.std.proofs.lemmas.List.{length-map}
use Rattle.mgs_model.specs.Access.{Directory, decision_by}
use Rattle.mgs_model.specs.Rights.{rights_in}
use Rattle.mgs_model.specs.View.{BufferSeen, View, buffer_seen, find_seen}
use Rattle.mgs_model.specs.Outcome.{Run}
use Rattle.mgs_model.specs.Outcome as outcomes
use Rattle.mgs_model.specs.Acts.{Meaning, Request, about, deciders_found, judged, meaning_by_name, outcome, permitted, subject, there}
use Rattle.mgs_model.specs.declared.session.ByName.{ByName}
use Rattle.mgs_model.specs.declared.session.Command.TheVariants.{Named}
use Rattle.mgs_buffers.specs.MarkedBuffer.{HasBuffer, MarkedBuffer, has_buffer, marked_at}
use Rattle.mgs_session.specs.declared.Session.{Session}
use Rattle.mgs_plan.specs.Deciding.{IsJudged, IsPlanned, outcome_read, view_at}
use Rattle.mgs_plan.specs.declared.outcome.Outcome.{Outcome}
use Rattle.mgs_world.specs.Worlds.{buffers_of}
use Rattle.mgs_world.proofs.Found.{found_seen, name_kept, unseen}
use Rattle.mgs_plan.proofs.Outcomes.{only_one}
use Rattle.mgs_plan.proofs.Answered.{of_named}

-- one request on a buffer that is there is judged by its deciders
pub request_judged : (v : View) (name : List ℕ) (rights : ℕ) (b : BufferSeen) → find_seen name v.buffers ≡ Some b → judged v (record { buffer = name; rights = rights } ∷ []) ≡ decision_by b.deciders (rights_in rights)
request_judged v name rights b found =
    only_one (decision_by (deciders_found (find_seen name v.buffers)) (rights_in rights)) ∙ ap (λ o. decision_by (deciders_found o) (rights_in rights)) found

-- THE BUFFER THAT IS SHOWN, or whose list is
pub about_none : (v : View) (rights : ℕ) (does : Option BufferSeen → outcomes.Outcome) → subject v ≡ None → permitted v.session.state (judged v (about (subject v) rights)) (does (subject v)) ≡ does None
about_none v rights does is = ap (λ o. permitted v.session.state (judged v (about o rights)) (does o)) is

pub about_one : (v : View) (rights : ℕ) (does : Option BufferSeen → outcomes.Outcome) (b : BufferSeen) → subject v ≡ Some b → find_seen b.name v.buffers ≡ Some b
    → permitted v.session.state (judged v (about (subject v) rights)) (does (subject v)) ≡ permitted v.session.state (decision_by b.deciders (rights_in rights)) (does (Some b))
about_one v rights does b is found =
    ap (λ o. permitted v.session.state (judged v (about o rights)) (does o)) is
    ∙ ap (λ d. permitted v.session.state d (does (Some b))) (request_judged v b.name rights b found)

-- THE BUFFER OF A NAME, by what the command's row is in a view in which it is found, or is not

-- a view has as many buffers as there are
as_many : (directory : Directory) (ks : List MarkedBuffer) (xs : List Session) (next : Option ℕ) (h : Session) → length (view_at directory ks xs next h).buffers ≡ length ks
as_many directory ks xs next h = length-map (buffers_of ks) (buffer_seen directory h.user) ∙ length-map ks (λ (k : MarkedBuffer). k.buffer)

-- a row that asks for these rights on it, and does this
abbrev asking_there : View → List ℕ → ℕ → outcomes.Outcome → Meaning
asking_there v name rights does = record { needs = there v name rights; does = does }

abbrev asked_of : List ℕ → ℕ → Option BufferSeen → List Request
asked_of name rights o = elim o [ None ↦ [] | Some b ↦ record { buffer = name; rights = rights } ∷ [] ]

-- what a command comes to by its row
by_row : (v : View) (k : ByName) (n : Option ℕ) (typed : List ℕ) (stored : Bool) (m : Meaning) → meaning_by_name v k n typed ≡ m → outcome v (Run (Named k) n typed) stored ≡ permitted v.session.state (judged v m.needs) m.does
unfolding outcome
by_row v k n typed stored m row = ap (λ (m : Meaning). permitted v.session.state (judged v m.needs) m.does) row

module _ (directory : Directory) (ks : List MarkedBuffer) (h : Session) (typed : List ℕ) (k : ByName) (rights : ℕ) where
  -- it is there: where the rights are granted, this is done
  pub named_kept : (name : List ℕ) (granted o : Outcome) → HasBuffer name ks
      → ((xs : List Session) (next n : Option ℕ) (stored : Bool) (b : BufferSeen) → (let v = view_at directory ks xs next h in find_seen name v.buffers ≡ Some b → b.name ≡ name → meaning_by_name v k n typed ≡ asking_there v name rights (outcome_read ks v granted stored)))
      → IsJudged directory ks h.user name rights granted o
      → (n : Option ℕ) → IsPlanned directory ks h (Run (Named k) n typed) o
  named_kept name granted o kept row planned = λ n xs next stored.
      let v = view_at directory ks xs next h in
      let b = buffer_seen directory h.user (marked_at name ks).buffer in
      let does = outcome_read ks v granted stored in
      let found : find_seen name v.buffers ≡ Some b = found_seen directory h.user name ks kept in
      by_row v k n typed stored (asking_there v name rights does) (row xs next n stored b found (name_kept name ks kept))
      ∙ ap (λ o. permitted v.session.state (judged v (asked_of name rights o)) does) found
      ∙ ap (λ d. permitted v.session.state d does) (request_judged v name rights b found)
      ∙ planned v stored

  -- it is not: nothing is judged
  pub named_free : (name : List ℕ) (o : Outcome) → has_buffer name ks ≡ false
      → ((xs : List Session) (next n : Option ℕ) (stored : Bool) → (let v = view_at directory ks xs next h in length v.buffers ≡ length ks → find_seen name v.buffers ≡ None → meaning_by_name v k n typed ≡ asking_there v name rights (outcome_read ks v o stored)))
      → (n : Option ℕ) → IsPlanned directory ks h (Run (Named k) n typed) o
  named_free name o free row = λ n xs next stored.
      let v = view_at directory ks xs next h in
      let does = outcome_read ks v o stored in
      let none : find_seen name v.buffers ≡ None = unseen directory h.user name ks free in
      by_row v k n typed stored (asking_there v name rights does) (row xs next n stored (as_many directory ks xs next h) none)
      ∙ ap (λ o. permitted v.session.state (judged v (asked_of name rights o)) does) none

-- THE BUFFER OF THE NAME THAT WAS TYPED, for a command that is known to be this one
module _ (directory : Directory) (ks : List MarkedBuffer) (h : Session) (typed : List ℕ) {c : ByName} (k : ByName) (rights : ℕ) where
  pub typed_kept : (granted : List ℕ → Outcome) (name : List ℕ) (o : Outcome) → c ≡ k → name ≡ typed → HasBuffer typed ks
      → ((v : View) (n : Option ℕ) (stored : Bool) (b : BufferSeen) → find_seen typed v.buffers ≡ Some b → b.name ≡ typed → meaning_by_name v k n typed ≡ asking_there v typed rights (outcome_read ks v (granted typed) stored))
      → IsJudged directory ks h.user name rights (granted name) o
      → (n : Option ℕ) → IsPlanned directory ks h (Run (Named c) n typed) o
  typed_kept granted name o is name_is kept row planned =
      of_named directory ks h typed o is (named_kept directory ks h typed k rights typed (granted typed) o kept (λ xs next. row (view_at directory ks xs next h))
      (subst (λ (m : List ℕ). IsJudged directory ks h.user m rights (granted m) o) name_is planned))

  pub typed_free : (o : Outcome) → c ≡ k → has_buffer typed ks ≡ false
      → ((v : View) (n : Option ℕ) (stored : Bool) → length v.buffers ≡ length ks → find_seen typed v.buffers ≡ None → meaning_by_name v k n typed ≡ asking_there v typed rights (outcome_read ks v o stored))
      → (n : Option ℕ) → IsPlanned directory ks h (Run (Named c) n typed) o
  typed_free o is free row = of_named directory ks h typed o is (named_free directory ks h typed k rights typed o free (λ xs next. row (view_at directory ks xs next h)))
