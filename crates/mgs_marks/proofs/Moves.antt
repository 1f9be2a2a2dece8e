-- What marks are after an edit and a placing, and that they stay within the text.
use Rattle.std.proofs.Common.{◌≡◌, ◌≢◌, ℕ, zero, suc, ◌+◌, ◌-◌, ◌≤◌, Option, Some, None, List, [], ◌∷◌, ◌++◌, take, drop, length, get_or, refl, sym, ap, ◌∙◌, arith, length-append, inl, inr}
use Rattle.std.proofs.lemmas.Bool.{cases_eq}
use Rattle.std.proofs.lemmas.Bool.Decides.{nat_tests}
use Rattle.std.proofs.lemmas.List.{length-take, length-drop}
use Rattle.std.specs.Prelude.{slice_set, IsSome}
use Rattle.std.specs.Option.{option_map}
use Rattle.mgs_model.specs.Text.{shift, shift_all, edited}
use Rattle.mgs_marks.specs.Marks.{mark_in, or_zero, position_in}

-- a slot as the slab tells it
pub mark_in_get : (marks : List (Option ℕ)) (id : ℕ) → mark_in marks id ≡ get_or marks id None
mark_in_get [] id = refl
mark_in_get (m ∷ ms) zero = refl
mark_in_get (m ∷ ms) (suc id) = mark_in_get ms id

-- an edit leaves the first place
pub shift-zero : (a b n : ℕ) → shift a b n 0 ≡ 0
shift-zero a b n = grind (arith, nat_tests)

-- a mark moves as its position does
pub mark_in-shift_all : (a b n : ℕ) (marks : List (Option ℕ)) (id : ℕ) → mark_in (shift_all a b n marks) id ≡ option_map (shift a b n) (mark_in marks id)
mark_in-shift_all a b n [] id = refl
mark_in-shift_all a b n (None ∷ ms) zero = refl
mark_in-shift_all a b n (Some m ∷ ms) zero = refl
mark_in-shift_all a b n (m ∷ ms) (suc id) = mark_in-shift_all a b n ms id

or_zero-shift : (a b n : ℕ) (o : Option ℕ) → or_zero (option_map (shift a b n) o) ≡ shift a b n (or_zero o)
or_zero-shift a b n None = sym (shift-zero a b n)
or_zero-shift a b n (Some m) = refl

pub position_in-shift_all : (a b n : ℕ) (marks : List (Option ℕ)) (id : ℕ) → position_in (shift_all a b n marks) id ≡ shift a b n (position_in marks id)
position_in-shift_all a b n marks id = ap or_zero (mark_in-shift_all a b n marks id) ∙ or_zero-shift a b n (mark_in marks id)

-- a mark in use is where it was placed
pub mark_in-set : (marks : List (Option ℕ)) (id p : ℕ) → IsSome (mark_in marks id) → mark_in (slice_set marks id (Some p)) id ≡ Some p
mark_in-set [] id p h = cc
mark_in-set (m ∷ ms) zero p h = refl
mark_in-set (m ∷ ms) (suc id) p h = mark_in-set ms id p h

pub shift_bound : (a b n len m : ℕ) → a ≤ b → b ≤ len → m ≤ len → shift a b n m ≤ len - (b - a) + n
shift_bound a b n len m order within below = grind (arith, nat_tests)

pub length-edited : (a b : ℕ) (put text : List ℕ) → a ≤ b → b ≤ length text → length (edited a b put text) ≡ length text - (b - a) + length put
length-edited a b put text order within =
    omega (arith, length-append (take a text ++ put) (drop b text), length-append (take a text) put, length-take a text, length-drop b text)

-- an edit leaves each mark within the text
pub shifted_within : (a b : ℕ) (put text : List ℕ) (marks : List (Option ℕ)) → a ≤ b → b ≤ length text → ((id : ℕ) → position_in marks id ≤ length text) → (id : ℕ) → position_in (shift_all a b (length put) marks) id ≤ length (edited a b put text)
shifted_within a b put text marks order within below id =
    rw (position_in-shift_all a b (length put) marks id, length-edited a b put text order within) (shift_bound a b (length put) (length text) (position_in marks id) order within (below id))

-- so does one mark more
pub added_within : (len id p : ℕ) (old new : List (Option ℕ)) → mark_in new id ≡ Some p → ((k : ℕ) → k ≢ id → mark_in new k ≡ mark_in old k) → p ≤ len → ((k : ℕ) → position_in old k ≤ len) → (k : ℕ) → position_in new k ≤ len
added_within len id p old new added others within below k =
    elim (cases_eq k id) [
      | inl same ↦ rw (same, added) within
      | inr other ↦ rw (others k other) (below k)
    ]
