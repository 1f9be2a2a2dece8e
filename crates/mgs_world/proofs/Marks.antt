-- Where the marks of a buffer are, after its text was edited, a mark was placed, or another buffer changed.
use Rattle.std.proofs.Common.{◌≡◌, ℕ, zero, suc, Bool, true, false, List, [], ◌∷◌, length, Option, Some, None, refl, sym, ap, subst, ◌∙◌, eq-eqb}
use Rattle.std.specs.Prelude.{find, slice_set, IsSome, nat_eq}
use Rattle.std.specs.Option.{option_map}
use Rattle.std.proofs.lemmas.Slice.Eq.{bytes_eq-Decides}
use Rattle.mgs_model.specs.Names.{same_name}
use Rattle.mgs_model.specs.Text.{shift}
use Rattle.mgs_model.specs.Apply.{change_first}
use Rattle.mgs_model.proofs.Firsts.{find-change_first, find-change_first_other}
use Rattle.mgs_model.proofs.Moved.{edited_name}
use Rattle.mgs_marks.specs.Marks.{mark_in, position_in, or_zero}
use Rattle.mgs_marks.proofs.Moves.{shift-zero, position_in-shift_all, mark_in-set}
use Rattle.mgs_buffers.specs.MarkedBuffer.{MarkedBuffer, marked_named, marked_at, marked_or_none, mark_at, marked_edited, marked_placed}
use Rattle.mgs_world.specs.Sound.{one_if, option_uses}

-- NAMES

pub same_is : (a b : List ℕ) → same_name a b ≡ true → a ≡ b
same_is a b h = (bytes_eq-Decides a b).0 h

pub is_same : (a b : List ℕ) → a ≡ b → same_name a b ≡ true
is_same a b h = (bytes_eq-Decides a b).1 h

pub false_from : (b : Bool) → (b ≡ true → ⊥) → b ≡ false
false_from true h = absurd (h refl)
false_from false h = refl

pub not_both : {X : Type 0} (b : Bool) → b ≡ true → b ≡ false → X
not_both b p q = cc

pub other_name : (n m x : List ℕ) → same_name n m ≡ false → same_name n x ≡ true → same_name m x ≡ false
other_name n m x apart is =
    false_from (same_name m x) (λ e. not_both (same_name n m) (is_same n m (same_is n x is ∙ sym (same_is m x e))) apart)

-- WHAT IS KEPT UNDER A NAME, AFTER A CHANGE

pub found_same : (n m : List ℕ) (f : MarkedBuffer → MarkedBuffer) (ks : List MarkedBuffer) → ((k : MarkedBuffer) → (f k).buffer.name ≡ k.buffer.name) → same_name n m ≡ true → find (marked_named m) (change_first (marked_named n) f ks) ≡ option_map f (find (marked_named m) ks)
found_same n m f ks name same =
    subst (λ (x : List ℕ). find (marked_named m) (change_first (marked_named x) f ks) ≡ option_map f (find (marked_named m) ks)) (sym (same_is n m same))
    (find-change_first (marked_named m) f (λ k. ap (same_name m) (name k)) ks)

pub found_other : (n m : List ℕ) (f : MarkedBuffer → MarkedBuffer) (ks : List MarkedBuffer) → ((k : MarkedBuffer) → (f k).buffer.name ≡ k.buffer.name) → same_name n m ≡ false → find (marked_named m) (change_first (marked_named n) f ks) ≡ find (marked_named m) ks
found_other n m f ks name apart =
    find-change_first_other (marked_named n) (marked_named m) f (λ k. ap (same_name m) (name k)) (λ k e. other_name n m k.buffer.name apart e) ks

-- AN EDIT

marked_shift : (a b : ℕ) (put : List ℕ) (o : Option MarkedBuffer) (id : ℕ) → position_in (marked_or_none (option_map (marked_edited a b put) o)).marks id ≡ shift a b (length put) (position_in (marked_or_none o).marks id)
marked_shift a b put None id = sym (shift-zero a b (length put))
marked_shift a b put (Some k) id = position_in-shift_all a b (length put) k.marks id

pub mark_edited : (n m : List ℕ) (a b : ℕ) (put : List ℕ) (ks : List MarkedBuffer) (id : ℕ) → same_name n m ≡ true → mark_at m (change_first (marked_named n) (marked_edited a b put) ks) id ≡ shift a b (length put) (mark_at m ks id)
mark_edited n m a b put ks id same =
    ap (λ o. position_in (marked_or_none o).marks id) (found_same n m (marked_edited a b put) ks (λ k. edited_name a b put k.buffer) same)
    ∙ marked_shift a b put (find (marked_named m) ks) id

pub mark_kept : (n m : List ℕ) (f : MarkedBuffer → MarkedBuffer) (ks : List MarkedBuffer) (id : ℕ) → ((k : MarkedBuffer) → (f k).buffer.name ≡ k.buffer.name) → same_name n m ≡ false → mark_at m (change_first (marked_named n) f ks) id ≡ mark_at m ks id
mark_kept n m f ks id name apart = ap (λ o. position_in (marked_or_none o).marks id) (found_other n m f ks name apart)

-- A MARK IS PLACED

placed_here : (ms : List (Option ℕ)) (id p : ℕ) → IsSome (mark_in ms id) → position_in (slice_set ms id (Some p)) id ≡ p
placed_here ms id p h = ap or_zero (mark_in-set ms id p h)

placed_other : (ms : List (Option ℕ)) (id i p : ℕ) → (id ≡ i → ⊥) → position_in (slice_set ms id (Some p)) i ≡ position_in ms i
placed_other [] id i p h = refl
placed_other (m ∷ ms) zero zero p h = absurd (h refl)
placed_other (m ∷ ms) zero (suc i) p h = refl
placed_other (m ∷ ms) (suc id) zero p h = refl
placed_other (m ∷ ms) (suc id) (suc i) p h = placed_other ms id i p (λ e. h (ap suc e))

marked_placed_other : (id p i : ℕ) (o : Option MarkedBuffer) → (id ≡ i → ⊥) → position_in (marked_or_none (option_map (marked_placed id p) o)).marks i ≡ position_in (marked_or_none o).marks i
marked_placed_other id p i None h = refl
marked_placed_other id p i (Some k) h = placed_other k.marks id i p h

pub mark_unused : (n m : List ℕ) (id p : ℕ) (ks : List MarkedBuffer) (i : ℕ) → (same_name n m ≡ true → id ≡ i → ⊥) → mark_at m (change_first (marked_named n) (marked_placed id p) ks) i ≡ mark_at m ks i
mark_unused n m id p ks i h =
    let goal : Type 0 = mark_at m (change_first (marked_named n) (marked_placed id p) ks) i ≡ mark_at m ks i in
    let go : (r : Bool) → same_name n m ≡ r → goal =
    λ r. elim r as (λ r. same_name n m ≡ r → goal) [
      | true ↦ λ e. ap (λ o. position_in (marked_or_none o).marks i) (found_same n m (marked_placed id p) ks (λ k. refl) e) ∙ marked_placed_other id p i (find (marked_named m) ks) (h e)
      | false ↦ λ e. mark_kept n m (marked_placed id p) ks i (λ k. refl) e
    ]
    in go (same_name n m) refl

marked_placed_here : (id p : ℕ) (o : Option MarkedBuffer) → IsSome (mark_in (marked_or_none o).marks id) → position_in (marked_or_none (option_map (marked_placed id p) o)).marks id ≡ p
marked_placed_here id p None h = cc
marked_placed_here id p (Some k) h = placed_here k.marks id p h

pub mark_placed : (n : List ℕ) (id p : ℕ) (ks : List MarkedBuffer) → IsSome (mark_in (marked_at n ks).marks id) → mark_at n (change_first (marked_named n) (marked_placed id p) ks) id ≡ p
mark_placed n id p ks h =
    ap (λ o. position_in (marked_or_none o).marks id) (found_same n n (marked_placed id p) ks (λ k. refl) (is_same n n refl)) ∙ marked_placed_here id p (find (marked_named n) ks) h

-- a number that is counted 0 times is another
pub apart_from : (a b : ℕ) → one_if (nat_eq a b) ≡ 0 → b ≡ a → ⊥
apart_from a b h e =
    let t : nat_eq a b ≡ true = eq-eqb a b (sym e) in
    let u : one_if true ≡ 0 = subst (λ (r : Bool). one_if r ≡ 0) t h in cc

pub marks_unused : (n m : List ℕ) (id p : ℕ) (ks : List MarkedBuffer) (o : Option ℕ) → (same_name n m ≡ true → option_uses id o ≡ 0) → option_map (mark_at m (change_first (marked_named n) (marked_placed id p) ks)) o ≡ option_map (mark_at m ks) o
marks_unused n m id p ks None h = refl
marks_unused n m id p ks (Some i) h = ap (λ x. Some x) (mark_unused n m id p ks i (λ s. λ e. apart_from i id (h s) e))
