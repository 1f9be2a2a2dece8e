-- Where what is decided for a session is done, its act is; and what that touches, and whether it may be refused.
use Rattle.std.proofs.Common.{◌≡◌, ℕ, ◌<◌, Bool, true, false, List, length, Option, Some, None, refl, sym, ap, subst, ◌∙◌}
use Rattle.std.specs.Prelude.{slice_get}
use Rattle.std.specs.List.{position_or_len}
use Rattle.mgs_model.specs.Access.{Directory}
use Rattle.mgs_laws.specs.Apart.{touched_by}
use Rattle.mgs_model.specs.Apply.{act, applied, apply, outcome_in}
use Rattle.mgs_laws.specs.Refusals.{may_be_refused}
use Rattle.mgs_model.specs.Outcome.{Act, Run}
use Rattle.mgs_laws.specs.Refusals.{takes_memory}
use Rattle.mgs_model.specs.World.{State, World}
use Rattle.mgs_model.specs.declared.touched.Touched.{Touched}
use Rattle.mgs_buffers.specs.MarkedBuffer.{MarkedBuffer}
use Rattle.mgs_session.specs.declared.Session.{Session}
use Rattle.mgs_model.specs.declared.session.Command.{Command}
use Rattle.mgs_model.specs.declared.session.Command.TheVariants.{Insert, InsertReading, Move, Alter, Seek, Scroll, UndoEdit, NotModified}
use Rattle.mgs_model.specs.declared.session.Seeking.TheVariants.{SearchFor}
use Rattle.mgs_model.specs.declared.echo_text.Message.TheVariants.{Says}
use Rattle.mgs_model.specs.declared.echo_text.Notice.TheVariants.{NoBuffer}
use Rattle.mgs_model.specs.declared.search.Direction.{Direction}
use Rattle.mgs_session.specs.Sessions.{window_marks_of}
use Rattle.mgs_windows.specs.declared.WindowMarks.{WindowMarks}
use Rattle.mgs_plan.specs.Actions.{AreMarks, IsActionOf, IsSearchFor, is_on_text, outcome_through, plan_in, selected_height}
use Rattle.mgs_plan.specs.Rows.{scroll_in}
use Rattle.mgs_plan.specs.declared.action.Action.{Action}
use Rattle.mgs_plan.specs.declared.outcome.Outcome.TheVariants.{Acts, Fails}
use Rattle.mgs_world.proofs.Owns.{no_search_at_rest}
use Rattle.mgs_world.proofs.Soundness.{mark_is_kept}
use Rattle.mgs_plan.proofs.Outcomes.{outcome_none, outcome_plan, selected_none, sought_off_target, sought_plan}
use Rattle.mgs_plan.specs.Deciding.{IsOutcome, IsUnshown, outcome_read, view_at}
use Rattle.mgs_plan.specs.Tells.{touched_in}
use Rattle.mgs_plan.specs.declared.outcome.Outcome.{Outcome}
use Rattle.mgs_world.specs.Worlds.{idle, state_of, session_id, world_of}
use Rattle.mgs_plan.proofs.Commands.{outcome_answered}
use Rattle.mgs_plan.proofs.Stored.{is_save, unstored}
use Rattle.mgs_plan.proofs.Tells.{tells_known}

module _ (directory : Directory) (ks : List MarkedBuffer) (xs : List Session) (next : Option ℕ) (id at : ℕ) (h : Session) (c : Act) (o : Outcome) (stored : Bool) (place : at ≡ position_or_len (session_id id) xs) (within : at < length xs) (found : slice_get xs at ≡ Some h) (decided : IsOutcome directory ks xs next h c o) where
  decided_in : outcome_in (world_of directory ks xs next) id c stored ≡ Some (outcome_read ks (view_at directory ks xs next h) o stored)
  decided_in = outcome_answered directory ks xs next id at h c stored place within found ∙ ap (λ k. Some k) (decided stored)

  pub act_decided : (new : World) → new ≡ apply (world_of directory ks xs next) id (outcome_read ks (view_at directory ks xs next h) o stored) → new ≡ act (world_of directory ks xs next) id c stored
  act_decided new done = done ∙ sym (ap (applied (world_of directory ks xs next) id) decided_in)

  pub tells_decided : (touched : Touched) → touched ≡ touched_by (outcome_read ks (view_at directory ks xs next h) o stored).effect → touched ≡ touched_in (outcome_in (world_of directory ks xs next) id c stored)
  tells_decided touched is = tells_known _ (outcome_read ks (view_at directory ks xs next h) o stored) touched decided_in is

  pub may_decided : takes_memory (outcome_read ks (view_at directory ks xs next h) o stored) ≡ true → may_be_refused (outcome_in (world_of directory ks xs next) id c stored) ≡ true
  may_decided takes = ap may_be_refused decided_in ∙ takes

-- A COMMAND ON A TEXT

no_save : (c : Command) (n : Option ℕ) (typed : List ℕ) → is_on_text c ≡ true → is_save (Run c n typed) ≡ false
no_save (Insert c) n typed here = refl
no_save (InsertReading c) n typed here = refl
no_save (Move c) n typed here = refl
no_save (Alter c) n typed here = refl
no_save (Scroll c) n typed here = refl
no_save UndoEdit n typed here = refl
no_save NotModified n typed here = refl
no_save _ n typed here = cc

module _ (directory : Directory) (ks : List MarkedBuffer) (xs : List Session) (next : Option ℕ) (h : Session) (c : Command) (n : Option ℕ) (typed : List ℕ) (here : is_on_text c ≡ true) where
  pub text_planned : (x : WindowMarks) (place : ℕ) (action : Action) → window_marks_of h ≡ Some x → AreMarks ks x → state_of h.state ≡ idle (state_of h.state) → IsActionOf directory ks h x c n typed action → IsOutcome directory ks xs next h (Run c n typed) (Acts x place action)
  text_planned x place action sel marks fresh planned = λ stored.
      unstored (view_at directory ks xs next h) (Run c n typed) stored (no_save c n typed here)
      ∙ outcome_plan directory ks xs next h x c n typed here sel (mark_is_kept x.name x.point ks marks.point) (no_search_at_rest ks h fresh)
      ∙ sym (subst (λ (state : State). outcome_through state x ks h.kill action ≡ plan_in directory ks state h.user x (selected_height h) c n typed h.kill) (sym fresh) planned)

  pub text_unshown : (o : Outcome) → window_marks_of h ≡ None → IsUnshown h (scroll_in c) o → IsOutcome directory ks xs next h (Run c n typed) o
  text_unshown o none unshown = λ stored.
      unstored (view_at directory ks xs next h) (Run c n typed) stored (no_save c n typed here)
      ∙ outcome_none directory ks xs next h c n typed here none
      ∙ unshown ks (view_at directory ks xs next h) stored

-- A SEARCH for what was typed
module _ (directory : Directory) (ks : List MarkedBuffer) (xs : List Session) (next : Option ℕ) (h : Session) (d : Direction) (n : Option ℕ) (typed : List ℕ) where
  pub search_planned : (x : WindowMarks) (place : ℕ) (action : Action) → window_marks_of h ≡ Some x → AreMarks ks x → state_of h.state ≡ idle (state_of h.state) → IsSearchFor directory ks h.user x d typed action → IsOutcome directory ks xs next h (Run (Seek (SearchFor d)) n typed) (Acts x place action)
  search_planned x place action sel marks fresh planned = λ stored.
      unstored (view_at directory ks xs next h) (Run (Seek (SearchFor d)) n typed) stored refl
      ∙ sought_plan directory ks xs next h x (SearchFor d) n typed sel (mark_is_kept x.name x.point ks marks.point) (no_search_at_rest ks h fresh)
      ∙ sym (planned (state_of h.state) h.kill)

  pub search_unshown : window_marks_of h ≡ None → IsOutcome directory ks xs next h (Run (Seek (SearchFor d)) n typed) (Fails (Says NoBuffer))
  search_unshown none = λ stored.
      unstored (view_at directory ks xs next h) (Run (Seek (SearchFor d)) n typed) stored refl
      ∙ sought_off_target (view_at directory ks xs next h) (SearchFor d) n typed (selected_none directory ks xs next h none)
