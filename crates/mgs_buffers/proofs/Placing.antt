-- What becomes of a buffer whose marks are placed.
use Rattle.std.proofs.Common.{◌≡◌, ℕ, zero, suc, true, false, Bool, cond, List, [], ◌∷◌, Option, Some, None, refl, sym, ap, ◌∙◌}
use Rattle.std.specs.Prelude.{find, slice_set, IsSome}
use Rattle.mgs_model.specs.Apply.{change_first}
use Rattle.mgs_model.proofs.Firsts.{change_first_found, change_twice}
use Rattle.mgs_marks.specs.Marks.{mark_in, position_in}
use Rattle.mgs_buffers.specs.MarkedBuffer.{MarkedBuffer, marked_named, marked_or_none, marked_placed, mark_at, HasBuffer, IsMark}
use Rattle.mgs_buffers.specs.Placing.{CanStand, marked_placed_if, placed_if}

-- a mark in use stays so where any mark is placed
mark_in-kept : (marks : List (Option ℕ)) (id p k : ℕ) → IsSome (mark_in marks k) → IsSome (mark_in (slice_set marks id (Some p)) k)
mark_in-kept [] id p k h = h
mark_in-kept (m ∷ ms) zero p zero h = refl
mark_in-kept (m ∷ ms) zero p (suc k) h = h
mark_in-kept (m ∷ ms) (suc id) p zero h = h
mark_in-kept (m ∷ ms) (suc id) p (suc k) h = mark_in-kept ms id p k h

-- what can be placed still can
pub can_stand : (first second : Option (ℕ × ℕ)) (k : MarkedBuffer) → CanStand k.marks k.buffer.text second → CanStand (marked_placed_if first k).marks (marked_placed_if first k).buffer.text second
can_stand None second k h = h
can_stand (Some t) None k h = tt
can_stand (Some t) (Some u) k h = (mark_in-kept k.marks t.0 t.1 u.0 h.0, h.1)

pub placed_text : (t : Option (ℕ × ℕ)) (k : MarkedBuffer) → (marked_placed_if t k).buffer ≡ k.buffer
placed_text None k = refl
placed_text (Some t) k = refl

first_same : {A : Type 0} (p : A → Bool) (xs : List A) → change_first p (λ x. x) xs ≡ xs
first_same p [] = refl
first_same p (x ∷ xs) = elim (p x) as (λ b. cond b (x ∷ xs) (x ∷ change_first p (λ y. y) xs) ≡ x ∷ xs) [ true ↦ refl | false ↦ ap (λ ys. x ∷ ys) (first_same p xs) ]

placed_one : (name : List ℕ) (t : Option (ℕ × ℕ)) (ks : List MarkedBuffer) → change_first (marked_named name) (marked_placed_if t) ks ≡ placed_if name t ks
placed_one name None ks = first_same (marked_named name) ks
placed_one name (Some t) ks = refl

-- two that are placed at once are placed one after the other
pub placed_both : (name : List ℕ) (first second : Option (ℕ × ℕ)) (ks : List MarkedBuffer)
    → change_first (marked_named name) (λ k. marked_placed_if second (marked_placed_if first k)) ks ≡ placed_if name second (placed_if name first ks)
placed_both name first second ks =
    sym (change_twice (marked_named name) (marked_placed_if second) (marked_placed_if first) (λ k. marked_placed_if second (marked_placed_if first k)) (λ k. ap (λ b. marked_named name (record { buffer = b; marks = [] })) (placed_text first k)) (λ k. refl) ks)
    ∙ placed_one name second (change_first (marked_named name) (marked_placed_if first) ks)
    ∙ ap (placed_if name second) (placed_one name first ks)

set_same : (marks : List (Option ℕ)) (id : ℕ) → IsSome (mark_in marks id) → slice_set marks id (Some (position_in marks id)) ≡ marks
set_same [] id h = refl
set_same (None ∷ ms) zero h = cc
set_same (Some p ∷ ms) zero h = refl
set_same (m ∷ ms) (suc id) h = ap (λ xs. m ∷ xs) (set_same ms id h)

-- a mark that is placed where it stands changes nothing
pub placed_same : (name : List ℕ) (id : ℕ) (ks : List MarkedBuffer) → HasBuffer name ks → IsMark name id ks → change_first (marked_named name) (marked_placed id (mark_at name ks id)) ks ≡ ks
placed_same name id ks there mark = by (find (marked_named name) ks) refl there mark
  where
    by : (o : Option MarkedBuffer) → find (marked_named name) ks ≡ o → IsSome o → IsSome (mark_in (marked_or_none o).marks id) → change_first (marked_named name) (marked_placed id (mark_at name ks id)) ks ≡ ks
    by None e h m = cc
    by (Some k) e h m =
        let place : mark_at name ks id ≡ position_in k.marks id = ap (λ o. position_in (marked_or_none o).marks id) e in
        let stays : marked_placed id (mark_at name ks id) k ≡ k = ap (λ p. marked_placed id p k) place ∙ ap (λ ms. record k { marks = ms }) (set_same k.marks id m) in
        change_first_found (marked_named name) (marked_placed id (mark_at name ks id)) (λ x. x) k ks e stays ∙ first_same (marked_named name) ks
