-- Marks and texts where marks are placed, and where a text is edited.
use Rattle.std.proofs.Common.{◌≡◌, ℕ, ◌+◌, ◌-◌, ◌≤◌, ◌||◌, nat_lt, Bool, true, false, cond, List, length, Option, Some, None, refl, sym, ap, ◌∙◌, arith, ltb-false}
use Rattle.std.specs.Prelude.{find}
use Rattle.std.specs.Option.{option_map}
use Rattle.std.specs.List.{position_or_len}
use Rattle.mgs_model.specs.Text.{is_edit}
use Rattle.mgs_model.specs.Outcome.{PointPlan, At}
use Rattle.mgs_model.specs.Plans as plans
use Rattle.mgs_model.specs.Apply.{change_first}
use Rattle.mgs_model.proofs.Moved.{edited_name}
use Rattle.mgs_buffers.specs.MarkedBuffer.{HasBuffer, IsMark, MarkedBuffer, marked_at, marked_edited, marked_named, marked_or_none, marked_placed}
use Rattle.mgs_buffers.proofs.Places.{place_stays}
use Rattle.mgs_windows.specs.declared.WindowMarks.{WindowMarks}
use Rattle.mgs_world.specs.Sound.{in_use, one_if}
use Rattle.mgs_world.proofs.Marks.{found_same, is_same}
use Rattle.mgs_world.proofs.Soundness.{in_use_mark, in_use_placed, mark_edited_used, text_edited}
use Rattle.mgs_plan.specs.Actions.{AreMarks, edited_by, mark_gone}

-- WHAT AN EDIT IS

parts : (a b n : ℕ) (c d : Bool) → nat_lt a b ≡ c → nat_lt 0 n ≡ d → (c || d) ≡ false → (b ≤ a) × (n ≡ 0)
parts a b n false false p q r = (ltb-false a b p, omega (arith, ltb-false 0 n q))
parts a b n _ _ p q r = cc

pub no_edit : (a b : ℕ) (put : List ℕ) → is_edit a b put ≡ false → (b ≤ a) × (length put ≡ 0)
no_edit a b put e = parts a b (length put) (nat_lt a b) (nat_lt 0 (length put)) refl refl e

-- WHERE MARKS ARE PLACED

placed_text : (id p : ℕ) (o : Option MarkedBuffer) → (marked_or_none (option_map (marked_placed id p) o)).buffer.text ≡ (marked_or_none o).buffer.text
placed_text id p None = refl
placed_text id p (Some k) = refl

pub text_gone : (name : List ℕ) (id : ℕ) (to : PointPlan) (ks : List MarkedBuffer) → (marked_at name (mark_gone name id to ks)).buffer.text ≡ (marked_at name ks).buffer.text
text_gone name id (At p) ks =
    ap (λ o. (marked_or_none o).buffer.text) (found_same name name (marked_placed id p) ks (λ k. refl) (is_same name name refl))
    ∙ placed_text id p (find (marked_named name) ks)
text_gone name id _ ks = refl

pub used_once : (ks : List MarkedBuffer) (name : List ℕ) (i : ℕ) → IsMark name i ks → in_use name i ks ≡ 1
used_once ks name i mark = ap one_if mark

pub mark_still : (name : List ℕ) (id i : ℕ) (to : PointPlan) (ks : List MarkedBuffer) → IsMark name id ks → IsMark name i ks → IsMark name i (mark_gone name id to ks)
mark_still name id i (At p) ks placed mark =
    in_use_mark (change_first (marked_named name) (marked_placed id p) ks) name i (omega (arith, in_use_placed name id p ks name i placed, used_once ks name i mark))
mark_still name id i _ ks placed mark = mark

-- WHERE A TEXT IS EDITED

-- what holds of the buffers that are edited, and of those that are not
pub edit_or_none : (holds : List MarkedBuffer → Type 0) (name : List ℕ) (c : plans.Change) (ks : List MarkedBuffer) → holds (change_first (marked_named name) (marked_edited c.a c.b c.put) ks) → holds ks → holds (edited_by name c ks)
edit_or_none holds name c ks edit none = elim (is_edit c.a c.b c.put) as (λ f. holds (cond f (change_first (marked_named name) (marked_edited c.a c.b c.put) ks) ks)) [ true ↦ edit | false ↦ none ]

pub mark_edited_by : (name : List ℕ) (c : plans.Change) (ks : List MarkedBuffer) (i : ℕ) → IsMark name i ks → IsMark name i (edited_by name c ks)
mark_edited_by name c ks i mark = edit_or_none (IsMark name i) name c ks (mark_edited_used name name c.a c.b c.put ks i mark) mark

pub marks_edited_by : (c : plans.Change) (ks : List MarkedBuffer) (x : WindowMarks) → AreMarks ks x → AreMarks (edited_by x.name c ks) x
marks_edited_by c ks x are = record {
  point = mark_edited_by x.name c ks x.point are.point;
  mark = λ id is. mark_edited_by x.name c ks id (are.mark id is);
  top = mark_edited_by x.name c ks x.top are.top;
}

pub length_edited_by : (name : List ℕ) (c : plans.Change) (ks : List MarkedBuffer) → HasBuffer name ks → c.a ≤ c.b → c.b ≤ length (marked_at name ks).buffer.text → length (marked_at name (edited_by name c ks)).buffer.text ≡ length (marked_at name ks).buffer.text - (c.b - c.a) + length c.put
length_edited_by name c ks kept order within = go (is_edit c.a c.b c.put) refl
  where
    go : (f : Bool) → is_edit c.a c.b c.put ≡ f → length (marked_at name (cond f (change_first (marked_named name) (marked_edited c.a c.b c.put) ks) ks)).buffer.text ≡ length (marked_at name ks).buffer.text - (c.b - c.a) + length c.put
    go true e = text_edited name c.a c.b c.put ks kept order within
    go false e = let none = no_edit c.a c.b c.put e in omega (arith, none.0, none.1, order, within)

-- and each buffer keeps its place
pub place_edited_by : (name : List ℕ) (c : plans.Change) (ks : List MarkedBuffer) (at : ℕ) → at ≡ position_or_len (marked_named name) ks → at ≡ position_or_len (marked_named name) (edited_by name c ks)
place_edited_by name c ks at place =
    edit_or_none (λ ls. at ≡ position_or_len (marked_named name) ls) name c ks (place ∙ sym (place_stays name name (marked_edited c.a c.b c.put) (λ k. edited_name c.a c.b c.put k.buffer) ks)) place

pub place_gone : (name : List ℕ) (id : ℕ) (to : PointPlan) (ks : List MarkedBuffer) (at : ℕ) → at ≡ position_or_len (marked_named name) ks → at ≡ position_or_len (marked_named name) (mark_gone name id to ks)
place_gone name id (At p) ks at place = place ∙ sym (place_stays name name (marked_placed id p) (λ k. refl) ks)
place_gone name id _ ks at place = place
