-- What it comes to that an access list is to be shown.
use Rattle.std.proofs.Common.{◌≡◌, ℕ, true, false, List, [], map, Option, Some, None, refl, sym, ap, ◌∙◌}
use Rattle.std.specs.Prelude.{IfSome}
use Rattle.mgs_model.specs.Access.{Directory, decision_by}
use Rattle.mgs_model.specs.Rights.{rights_in}
use Rattle.mgs_model.specs.View.{BufferSeen, View, buffer_seen, find_seen, view}
use Rattle.mgs_model.specs.Outcome.{Run}
use Rattle.mgs_model.specs.Acts.{about, judged, lists, outcome, permitted, subject}
use Rattle.mgs_model.specs.declared.echo_text.Message.TheVariants.{Says}
use Rattle.mgs_model.specs.declared.echo_text.Notice.TheVariants.{NoBuffer}
use Rattle.mgs_model.specs.declared.session.Command.TheVariants.{ListEntries}
use Rattle.mgs_buffers.specs.MarkedBuffer.{HasBuffer, MarkedBuffer, has_buffer, marked_at}
use Rattle.mgs_session.specs.Sessions.{subject_of}
use Rattle.mgs_session.specs.declared.Session.{Session}
use Rattle.mgs_plan.specs.Deciding.{IsJudged, IsOutcome, view_at}
use Rattle.mgs_plan.specs.Listing.{list_outcome, lists_named}
use Rattle.mgs_plan.specs.Subjects.{subject_kept}
use Rattle.mgs_plan.specs.declared.outcome.Outcome.{Outcome}
use Rattle.mgs_plan.specs.declared.outcome.Outcome.TheVariants.{Fails, Lists}
use Rattle.mgs_world.specs.Worlds.{buffers_of, session_of, world_of}
use Rattle.mgs_world.proofs.Found.{found_seen, name_kept}
use Rattle.mgs_plan.proofs.Named.{about_none, about_one}
use Rattle.mgs_plan.proofs.Subjects.{kept_subject, subject_seen, subject_told}
use Rattle.mgs_plan.proofs.Stored.{unstored}

list_seen : (directory : Directory) (ks : List MarkedBuffer) (xs : List Session) (next n : Option ℕ) (h : Session) → has_buffer [] ks ≡ false
    → (let v = view (world_of directory ks xs next) (session_of ks h) in outcome v (Run ListEntries n []) true ≡ list_outcome directory ks h.user (subject_kept ks (subject_of h)) v)
unfolding outcome
list_seen directory ks xs next n h unnamed = go (subject_kept ks (subject_of h)) (kept_subject ks (subject_of h)) (subject_seen directory ks xs next h unnamed)
  where
    v : View
    v = view (world_of directory ks xs next) (session_of ks h)

    by_name : (name : List ℕ) (b : BufferSeen) → b.name ≡ name → find_seen b.name v.buffers ≡ Some b → subject v ≡ Some b → permitted v.session.state (judged v (about (subject v) 131072)) (lists v (subject v)) ≡ permitted v.session.state (decision_by b.deciders (rights_in 131072)) (lists_named v name)
    by_name name b named found is =
        about_one v 131072 (lists v) b is found
        ∙ ap (λ (m : List ℕ). permitted v.session.state (decision_by b.deciders (rights_in 131072)) (lists_named v m)) named

    go : (s : Option (List ℕ)) → IfSome s (λ name. HasBuffer name ks) → subject v ≡ subject_told directory ks h.user s → permitted v.session.state (judged v (about (subject v) 131072)) (lists v (subject v)) ≡ list_outcome directory ks h.user s v
    go None there is = about_none v 131072 (lists v) is
    go (Some name) there is =
        let b = buffer_seen directory h.user (marked_at name ks).buffer in
        by_name name b (name_kept name ks there)
        (ap (λ m. find_seen m (map (buffer_seen directory h.user) (buffers_of ks))) (name_kept name ks there) ∙ found_seen directory h.user name ks there) is

-- FOR A SESSION

module _ (directory : Directory) (ks : List MarkedBuffer) (xs : List Session) (next n : Option ℕ) (h : Session) (unnamed : has_buffer [] ks ≡ false) where
  pub list_unshown : None ≡ subject_kept ks (subject_of h) → IsOutcome directory ks xs next h (Run ListEntries n []) (Fails (Says NoBuffer))
  list_unshown none = λ stored.
      unstored (view_at directory ks xs next h) (Run ListEntries n []) stored refl
      ∙ list_seen directory ks xs next n h unnamed ∙ ap (λ s. list_outcome directory ks h.user s (view_at directory ks xs next h)) (sym none)

  pub list_planned : (name : List ℕ) (o : Outcome) → Some name ≡ subject_kept ks (subject_of h) → IsJudged directory ks h.user name 131072 (Lists name) o
      → IsOutcome directory ks xs next h (Run ListEntries n []) o
  list_planned name o shown planned = λ stored.
      let v = view_at directory ks xs next h in
      unstored v (Run ListEntries n []) stored refl
      ∙ list_seen directory ks xs next n h unnamed
      ∙ ap (λ s. list_outcome directory ks h.user s v) (sym shown)
      ∙ planned v stored
