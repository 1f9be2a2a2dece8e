-- The walks that gather the faults of a start.
use Rattle.std.proofs.Common.{◌≡◌, ℕ, zero, suc, ◌+◌, ◌≤◌, length, arith, List, [], ◌∷◌, Some, None, sym, ap, subst, ◌∙◌}
use Rattle.std.specs.Prelude.{drop, slice_get}
use Rattle.mgs_resume.proofs.Walks.{dropped_all, dropped_one, past}

next_suc : (i j : ℕ) → j ≡ i + 1 → suc i ≡ j
next_suc i j next = omega (arith, next)

module _ {A B : Type 0} (xs : List A) (i j : ℕ) (next : j ≡ i + 1) where
  -- one more is passed: what the rest leads to stays the same
  pub walk_step : (before after : List A → B) (x : A) (whole : B) → Some x ≡ slice_get xs i → ((rest : List A) → after rest ≡ before (x ∷ rest))
      → before (drop i xs) ≡ whole → after (drop j xs) ≡ whole
  walk_step before after x whole at step so =
      subst (λ (k : ℕ). after (drop k xs) ≡ whole) (next_suc i j next) (step (drop (suc i) xs) ∙ ap before (sym (dropped_one xs i x at)) ∙ so)

  -- none is there to be passed
  pub walk_past : (f : List A → B) → None ≡ slice_get xs i → f (drop j xs) ≡ f (drop i xs)
  walk_past f none = subst (λ (k : ℕ). f (drop k xs) ≡ f (drop i xs)) (next_suc i j next) (ap f (dropped_all xs (suc i) (past xs i none) ∙ sym (dropped_all xs i none)))

module _ {A B : Type 0} (xs : List A) (i : ℕ) where
  -- none is left
  pub walk_end : (f : List A → B) (whole : B) → None ≡ slice_get xs i → f (drop i xs) ≡ whole → f [] ≡ whole
  walk_end f whole none so = ap f (sym (dropped_all xs i none)) ∙ so

module _ {A : Type 0} where
  pub below : (xs : List A) (i : ℕ) (x : A) → Some x ≡ slice_get xs i → suc i ≤ length xs
  below [] i x at = absurd cc
  below (y ∷ xs) zero x at = omega arith
  below (y ∷ xs) (suc i) x at = let e = below xs i x at in omega (arith, e)

  pub below_next : (xs : List A) (i j : ℕ) (x : A) → j ≡ i + 1 → Some x ≡ slice_get xs i → j ≤ length xs
  below_next xs i j x next at = let e = below xs i x at in omega (arith, e, next)

  pub at_end : (xs : List A) (i : ℕ) → None ≡ slice_get xs i → i ≤ length xs → i ≡ length xs
  at_end [] i none le = omega (arith, le)
  at_end (y ∷ xs) zero none le = absurd cc
  at_end (y ∷ xs) (suc i) none le = ap suc (at_end xs i none (omega (arith, le)))
