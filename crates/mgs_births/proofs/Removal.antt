-- The first that passes is removed, by its place.
use Rattle.std.proofs.Common.{◌≡◌, ℕ, ◌+◌, ◌≤◌, not, Bool, true, false, cond, List, [], ◌∷◌, length, Some, None, refl, sym, ap, ◌∙◌, one-add}
use Rattle.std.proofs.lemmas.Bool.{ltb-false}
use Rattle.std.proofs.lemmas.List.Folds.{find_at}
use Rattle.std.proofs.lemmas.Option.{slice_get_past}
use Rattle.std.specs.Prelude.{find, nat_lt, position}
use Rattle.std.specs.List.{position_or_len, remove}
use Rattle.mgs_model.specs.Apply.{remove_first}

remove_at_first : {A : Type 0} (p : A → Bool) (xs : List A) → remove xs (position_or_len p xs) ≡ remove_first p xs
remove_at_first p [] = refl
remove_at_first {A = A} p (x ∷ xs) =
    elim (p x) as (λ b. remove (x ∷ xs) (cond (not b) (1 + position_or_len p xs) 0) ≡ cond b xs (x ∷ remove_first p xs)) [
      | true ↦ refl
      | false ↦ rw one-add (ap (λ ys. x ∷ ys) (remove_at_first p xs))
    ]

remove_none : {A : Type 0} (p : A → Bool) (xs : List A) → find p xs ≡ None → remove_first p xs ≡ xs
remove_none p [] h = refl
remove_none p (x ∷ xs) h =
    (elim (p x) as (λ b. cond b (Some x) (find p xs) ≡ None → cond b xs (x ∷ remove_first p xs) ≡ x ∷ xs) [ true ↦ λ e. cc | false ↦ λ e. ap (λ ys. x ∷ ys) (remove_none p xs e) ]) h

module _ {A : Type 0} (p : A → Bool) (xs : List A) where
  at_place : (b : Bool) (at : ℕ) → cond b (Some (position_or_len p xs)) None ≡ Some at → at ≡ position_or_len p xs
  at_place true at e = cc
  at_place false at e = absurd cc

  pub removed_at : (at : ℕ) → position p xs ≡ Some at → remove xs at ≡ remove_first p xs
  removed_at at e = ap (remove xs) (at_place (nat_lt (position_or_len p xs) (length xs)) at e) ∙ remove_at_first p xs

  beyond : (b : Bool) → nat_lt (position_or_len p xs) (length xs) ≡ b → cond b (Some (position_or_len p xs)) None ≡ None → length xs ≤ position_or_len p xs
  beyond true q e = absurd cc
  beyond false q e = ltb-false (position_or_len p xs) (length xs) q

  pub removed_none : position p xs ≡ None → xs ≡ remove_first p xs
  removed_none e = sym (remove_none p xs (find_at p xs ∙ slice_get_past xs (position_or_len p xs) (beyond (nat_lt (position_or_len p xs) (length xs)) refl e)))
