-- What is done where a text is inserted into a window's buffer, and the mark set.
use Rattle.std.proofs.Common.{◌≡◌, ℕ, ◌+◌, ◌<◌, ◌≤◌, List, [], length, Option, Some, refl, sym, ap, ◌∙◌, arith}
use Rattle.std.specs.Prelude.{slice_get, slice_set}
use Rattle.std.specs.List.{position_or_len}
use Rattle.mgs_model.specs.Access.{Directory}
use Rattle.mgs_model.specs.Apply.{apply}
use Rattle.mgs_buffers.specs.MarkedBuffer.{HasBuffer, IsMark, MarkedBuffer, marked_at}
use Rattle.mgs_windows.specs.declared.WindowMarks.{WindowMarks}
use Rattle.mgs_session.specs.Sessions.{window_marks_of}
use Rattle.mgs_session.specs.declared.Session.{Session}
use Rattle.mgs_edit.specs.declared.plan.Finish.{Finish}
use Rattle.mgs_act.specs.Performing.{marks_left}
use Rattle.mgs_plan.specs.Actions.{AreMarks, edited_by}
use Rattle.mgs_plan.specs.Following.{edit_told, followed}
use Rattle.mgs_plan.specs.Inserting.{IsInserted, buffers_inserted, insertion_of, leaving, put_outcome}
use Rattle.mgs_world.specs.Sound.{IsSound}
use Rattle.mgs_world.specs.Worlds.{idle, state_at, state_or_first, session_id, world_of}
use Rattle.mgs_world.proofs.Soundness.{mark_is_kept}
use Rattle.mgs_plan.proofs.Deeds.{fresh_state}
use Rattle.mgs_plan.proofs.Leaving.{length_edited_by}
use Rattle.mgs_act.proofs.Marked.{mark_there, marked_so, sound_marked, text_left}

-- THE TEXT AFTERWARDS

pub length_inserted : (name : List ℕ) (place : ℕ) (put : List ℕ) (ks : List MarkedBuffer) → HasBuffer name ks → place ≤ length (marked_at name ks).buffer.text → place + length put ≤ length (marked_at name (edited_by name (insertion_of place put) ks)).buffer.text
length_inserted name place put ks kept within = omega (arith, within, length_edited_by name (insertion_of place put) ks kept (omega arith) within)

-- where the mark is to be, there is a text
pub place_inserted : (x : WindowMarks) (place : ℕ) (put : List ℕ) (ks : List MarkedBuffer) → HasBuffer x.name ks → place ≤ length (marked_at x.name ks).buffer.text → place ≤ length (marked_at x.name (buffers_inserted x place put ks)).buffer.text
place_inserted x place put ks kept within =
    omega (arith, length_inserted x.name place put ks kept within, ap (λ (t : List ℕ). length t) (text_left x (insertion_of place put).finish (edited_by x.name (insertion_of place put) ks)))

pub mark_inserted : (x : WindowMarks) (mid place : ℕ) (put : List ℕ) (ks : List MarkedBuffer) → IsMark x.name mid ks → AreMarks ks x → IsMark x.name mid (buffers_inserted x place put ks)
mark_inserted x mid place put ks mark marks = mark_there x mid (insertion_of place put) (insertion_of place put).finish ks mark marks

-- what is left of it
pub left_there : (x : WindowMarks) (place : ℕ) (put : List ℕ) (f : Finish) (ks ls ms : List MarkedBuffer) → f ≡ leaving place → ls ≡ edited_by x.name (insertion_of place put) ks → ms ≡ marks_left x f (place + length put) ls → ms ≡ buffers_inserted x place put ks
left_there x place put f ks ls ms is edits left =
    left ∙ ap (λ (g : Finish). marks_left x g (place + length put) ls) is ∙ ap (marks_left x (leaving place) (place + length put)) edits

-- THE WORLD

module _ (ks ls : List MarkedBuffer) (xs : List Session) (at place : ℕ) (put : List ℕ) (x : WindowMarks) (h y : Session) (found : slice_get xs at ≡ Some h) (sound : IsSound ks xs) (sel : window_marks_of h ≡ Some x) (marks : AreMarks ks x) (m : IsInserted x place put ks ls h y) where
  pub inserted_sound : IsSound ls (slice_set xs at y)
  inserted_sound =
      let change = insertion_of place put in
      rw (m.buffers, m.session) (sound_marked ks m.between xs at m.id place h x change change.finish sound found sel marks m.reserved)

  pub inserted_so : (directory : Directory) (next : Option ℕ) (id : ℕ) → at ≡ position_or_len (session_id id) xs → at < length xs → state_at at xs ≡ idle (state_at at xs) → place ≤ length (marked_at x.name ks).buffer.text
      → world_of directory ls (followed x.name (edit_told (length (marked_at x.name ks).buffer.text) (insertion_of place put)) (slice_set xs at y)) next ≡ apply (world_of directory ks xs next) id (put_outcome (state_at at xs) x.name place put)
  inserted_so directory next id there within fresh room =
      rw (m.buffers, m.session)
      (marked_so directory ks m.between xs next id at m.id place h x (insertion_of place put) (place + length put) [] (leaving place) (omega arith) room sound (mark_is_kept x.name x.point ks marks.point) m.reserved there within found sel marks (fresh_state xs at h found fresh) refl refl)
      ∙ ap (λ s. apply (world_of directory ks xs next) id (put_outcome (state_or_first s) x.name place put)) (sym found)
