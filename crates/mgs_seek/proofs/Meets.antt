-- A query-replace is at its next match, or over: that what is done is what the act comes to.
use Rattle.std.proofs.Common.{◌≡◌, ℕ, ◌≤◌, min, List, length, Option, Some, None, refl, ap, ◌∙◌}
use Rattle.std.proofs.Math.Nat.{min-eq_left}
use Rattle.std.specs.Prelude.{IfSome}
use Rattle.mgs_model.specs.World.{State}
use Rattle.mgs_model.specs.World as model
use Rattle.mgs_model.specs.Outcome.{Keep_mark, Keep_position, No_effect}
use Rattle.mgs_model.specs.SearchCommands.{SearchFinish, met}
use Rattle.mgs_model.specs.Acts.{counted, search_finished, search_finished_state}
use Rattle.mgs_model.specs.Apply.{session_arranged, window_adjusted}
use Rattle.mgs_buffers.specs.MarkedBuffer.{IsMark, MarkedBuffer, marked_at}
use Rattle.mgs_windows.specs.declared.WindowMarks.{WindowMarks}
use Rattle.mgs_edit.specs.Reading.{top_read}
use Rattle.mgs_session.specs.Seeking.{searching}
use Rattle.mgs_session.specs.Sessions.{window_marks_of}
use Rattle.mgs_session.specs.declared.Session.{Session}
use Rattle.mgs_session.specs.declared.search.Aim.TheVariants.{Replace}
use Rattle.mgs_session.specs.Replacing.{Replacing}
use Rattle.mgs_session.specs.declared.search.Search.{Search}
use Rattle.mgs_plan.specs.Actions.{mark_gone}
use Rattle.mgs_seek.specs.Replacing.{point_met, session_met, session_over}
use Rattle.mgs_world.specs.Sound.{IsSessionSound}
use Rattle.mgs_seek.proofs.Lifts.{gone_does, marks_held, only_gone}
use Rattle.mgs_world.specs.Only.{OnlyThis, nothing_held}
use Rattle.mgs_world.specs.Worlds.{buffers_of, state_of, session_of, size_named}
use Rattle.mgs_world.proofs.Edits.{size_kept}
use Rattle.mgs_world.proofs.Soundness.{mark_is_kept}
use Rattle.mgs_plan.proofs.Deeds.{point_by}

-- the point goes there whatever is searched for
pub adjusted_met : (len : ℕ) (next left : Option ℕ) (search : Option model.Search) (w : model.Window) → point_by (point_met len next left) w ≡ window_adjusted search (point_met len next left) Keep_mark Keep_position None w
adjusted_met len None None search w = refl
adjusted_met len _ _ search w = refl

-- A QUERY-REPLACE THAT GOES ON, or is over

abbrev pub replaces : Search → Replacing → Search
replaces s r = record s { aim = Replace r }

abbrev pub counts : Search → Replacing → ℕ → Search
counts s r k = replaces s (record r { count = k })

met_state : (len : ℕ) (next left : Option ℕ) (s : Search) (r : Replacing) (k n : ℕ) (h : Session) → k ≡ counted r.count n → state_of (session_met next (counts s r k) h).state ≡ search_finished_state (met len n (top_read left) next) (state_of (searching (replaces s r) h).state)
met_state len None _ s r k n h e = ap (λ (q : ℕ). state_of (session_over q h).state) e
met_state len (Some m) _ s r k n h e = ap (λ (q : ℕ). state_of (session_met (Some m) (counts s r q) h).state) e

-- in its session
module _ (ks : List MarkedBuffer) (h : Session) (x : WindowMarks) (s : Search) (r : Replacing) (sound : IsSessionSound ks h) (sel : window_marks_of h ≡ Some x) (name : s.name ≡ x.name) (len : ℕ) (left : Option ℕ) (k n : ℕ) (count : k ≡ counted r.count n) where
  abbrev state : State
  state = state_of (searching (replaces s r) h).state

  abbrev left_so : Option ℕ → SearchFinish
  left_so next = met len n (top_read left) next

  pub met_does : (next : Option ℕ) → IfSome next (λ m. m ≤ length (marked_at x.name ks).buffer.text)
      → session_of (mark_gone x.name x.point (point_met len next left) ks) (session_met next (counts s r k) h) ≡ session_arranged (search_finished state (left_so next) No_effect) (session_of ks (searching (replaces s r) h))
  met_does None small =
      gone_does ks h x (point_met len None left) (session_met None (counts s r k) h).state sound sel state (session_of ks (searching (replaces s r) h)).search state (left_so None) (adjusted_met len None left) (met_state len None left s r k n h count) refl
  met_does (Some m) small =
      let size : size_named s.name (buffers_of ks) ≡ length (marked_at x.name ks).buffer.text = ap (λ (q : List ℕ). size_named q (buffers_of ks)) name ∙ size_kept x.name ks (mark_is_kept x.name x.point ks (marks_held ks h x sound sel).point) in
      gone_does ks h x (point_met len (Some m) left) (session_met (Some m) (counts s r k) h).state sound sel state (session_of ks (searching (replaces s r) h)).search state (left_so (Some m)) (adjusted_met len (Some m) left) (met_state len (Some m) left s r k n h count)
      (ap (λ (a : ℕ). let t : model.Search = record { name = s.name; origin = min s.origin (size_named s.name (buffers_of ks)); anchor = a } in Some t) (ap (min m) size ∙ min-eq_left small))

-- the session of a match, or of none, uses the marks that it used
pub only_met : (ks : List MarkedBuffer) (h : Session) (x : WindowMarks) (len : ℕ) (to left : Option ℕ) (s : Search) → window_marks_of h ≡ Some x → IsMark x.name x.point ks → OnlyThis nothing_held ks (mark_gone x.name x.point (point_met len to left) ks) h (session_met to s h)
only_met ks h x len None left s sel mark = only_gone ks h x (point_met len None left) (session_met None s h).state sel mark
only_met ks h x len (Some m) left s sel mark = only_gone ks h x (point_met len (Some m) left) (session_met (Some m) s h).state sel mark
