-- What a name finds after a change of one buffer.
use Rattle.std.proofs.Common.{◌≡◌, ℕ, true, List, length, Option, Some, None, refl, sym, ap, subst, ◌∙◌}
use Rattle.std.specs.Prelude.{find, is_some, IsSome}
use Rattle.std.specs.Option.{option_map}
use Rattle.mgs_model.specs.Names.{same_name}
use Rattle.mgs_model.specs.Text.{shift}
use Rattle.mgs_model.specs.Apply.{change_first}
use Rattle.mgs_model.proofs.Firsts.{find-change_first}
use Rattle.mgs_model.proofs.Moved.{edited_name}
use Rattle.mgs_marks.specs.Marks.{mark_in}
use Rattle.mgs_marks.proofs.Moves.{mark_in-shift_all, mark_in-set}
use Rattle.mgs_buffers.specs.MarkedBuffer.{MarkedBuffer, marked_named, marked_at, marked_or_none, with_marks, marked_edited, marked_placed, HasBuffer, IsMark, MarkAdded}

module _ (name : List ℕ) (f : MarkedBuffer → MarkedBuffer) (names : (k : MarkedBuffer) → (f k).buffer.name ≡ k.buffer.name) where
  same_test : (other : List ℕ) (k : MarkedBuffer) → marked_named other (f k) ≡ marked_named other k
  same_test other k = ap (same_name other) (names k)

  -- the changed buffer
  pub marked_at-changed : (ks : List MarkedBuffer) → HasBuffer name ks → marked_at name (change_first (marked_named name) f ks) ≡ f (marked_at name ks)
  marked_at-changed ks there = ap marked_or_none (find-change_first (marked_named name) f (same_test name) ks) ∙ at (find (marked_named name) ks) there
    where
      at : (o : Option MarkedBuffer) → IsSome o → marked_or_none (option_map f o) ≡ f (marked_or_none o)
      at None h = cc
      at (Some k) h = refl

  -- it is kept as before
  pub HasBuffer-changed : (ks : List MarkedBuffer) → HasBuffer name ks → HasBuffer name (change_first (marked_named name) f ks)
  HasBuffer-changed ks there = subst IsSome (sym (find-change_first (marked_named name) f (same_test name) ks)) (at (find (marked_named name) ks) there)
    where
      at : (o : Option MarkedBuffer) → IsSome o → IsSome (option_map f o)
      at None h = h
      at (Some k) h = refl

-- A NEW MARK
module _ (name : List ℕ) (p id : ℕ) (old new : List MarkedBuffer) (there : HasBuffer name old) (m : MarkAdded name p id old new) where
  pub marked_at-added : marked_at name new ≡ with_marks m.marks (marked_at name old)
  marked_at-added = ap (marked_at name) m.shape ∙ marked_at-changed name (with_marks m.marks) (λ k. refl) old there

  pub HasBuffer-added : HasBuffer name new
  HasBuffer-added = subst (HasBuffer name) (sym m.shape) (HasBuffer-changed name (with_marks m.marks) (λ k. refl) old there)

  -- it is in use
  pub IsMark-added : IsMark name id new
  IsMark-added = ap (λ (k : MarkedBuffer). is_some (mark_in k.marks id)) marked_at-added ∙ ap is_some m.added

-- A MARK IN USE STAYS IN USE
pub IsMark-edited : (name : List ℕ) (id a b : ℕ) (put : List ℕ) (old new : List MarkedBuffer) → HasBuffer name old → IsMark name id old → new ≡ change_first (marked_named name) (marked_edited a b put) old → IsMark name id new
IsMark-edited name id a b put old new there mark change =
    ap (λ (ks : List MarkedBuffer). is_some (mark_in (marked_at name ks).marks id)) change
    ∙ ap (λ (k : MarkedBuffer). is_some (mark_in k.marks id)) (marked_at-changed name (marked_edited a b put) (λ k. edited_name a b put k.buffer) old there)
    ∙ ap is_some (mark_in-shift_all a b (length put) (marked_at name old).marks id)
    ∙ at (mark_in (marked_at name old).marks id) mark
  where
    at : (o : Option ℕ) → IsSome o → is_some (option_map (shift a b (length put)) o) ≡ true
    at None h = h
    at (Some m) h = refl

pub IsMark-placed : (name : List ℕ) (id p : ℕ) (old new : List MarkedBuffer) → HasBuffer name old → IsMark name id old → new ≡ change_first (marked_named name) (marked_placed id p) old → IsMark name id new
IsMark-placed name id p old new there mark change =
    ap (λ (ks : List MarkedBuffer). is_some (mark_in (marked_at name ks).marks id)) change
    ∙ ap (λ (k : MarkedBuffer). is_some (mark_in k.marks id)) (marked_at-changed name (marked_placed id p) (λ k. refl) old there)
    ∙ ap is_some (mark_in-set (marked_at name old).marks id p mark)
