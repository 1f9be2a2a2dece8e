-- Lists of marks, and what a write of a slot leaves of them.
use Rattle.std.proofs.Common.{◌≡◌, ◌≢◌, ℕ, zero, suc, Option, Some, None, Result, Ok, Err, List, [], ◌∷◌, map, set, get_or, is_some, cond, refl, subst, sym, ap, ap₂, ◌∙◌, ◌+◌, inl, inr}
use Rattle.std.specs.Prelude.{IsSome, IfOk, OnErr}
use Rattle.std.specs.List.{count_by}
use Rattle.std.proofs.lemmas.Bool.{cases_eq}
use Rattle.std.proofs.lemmas.List.Sums.{sum_by-cons}
use Rattle.std.specs.Option.{option_map}
use Rattle.mgs_marks.specs.Marks.{mark_in, position_in, or_zero}
use Rattle.mgs_marks.proofs.Moves.{mark_in_get}

-- what holds of a mark's position holds of it as the slab tells it, where that is the same
pub position_told : (P : ℕ → Type 0) (xs ys : List (Option ℕ)) (i : ℕ) → get_or ys i None ≡ get_or xs i None → P (position_in xs i) → P (or_zero (get_or ys i None))
position_told P xs ys i same h = rw same (subst P (ap or_zero (mark_in_get xs i)) h)

pub map_set : {A B : Type 0} (f : A → B) (xs : List A) (i : ℕ) (y : A) → map f (set xs i y) ≡ set (map f xs) i (f y)
map_set f [] i y = refl
map_set f (x ∷ xs) zero y = refl
map_set f (x ∷ xs) (suc i) y = ap (λ l. f x ∷ l) (map_set f xs i y)

-- what holds of each position holds of each one after a slot was written
pub position_set : (P : ℕ → Type 0) (xs : List (Option ℕ)) (id : ℕ) (o : Option ℕ) → P (or_zero o) → ((i : ℕ) → P (position_in xs i)) → (i : ℕ) → P (position_in (set xs id o) i)
position_set P [] id o h k i = k i
position_set P (x ∷ xs) zero o h k zero = h
position_set P (x ∷ xs) zero o h k (suc i) = k (suc i)
position_set P (x ∷ xs) (suc id) o h k zero = k zero
position_set P (x ∷ xs) (suc id) o h k (suc i) = position_set P xs id o h (λ j. k (suc j)) i

-- and after a mark came, or memory was refused to it
pub position_added : {E : Type 0} (P : ℕ → Type 0) (old new : List (Option ℕ)) (y : ℕ) (r : Result ℕ E)
    → IfOk r (λ id. mark_in new id ≡ Some y) → IfOk r (λ id. (k : ℕ) → k ≢ id → mark_in new k ≡ mark_in old k) → OnErr r (new ≡ old)
    → P y → ((k : ℕ) → P (position_in old k)) → (k : ℕ) → P (position_in new k)
position_added P old new y (Ok id) added others same h all k =
    elim (cases_eq k id) [
      | inl here ↦ rw (here, added) h
      | inr other ↦ rw (others k other) (all k)
    ]
position_added P old new y (Err e) added others same h all k = rw same (all k)

pub position_map : (P : ℕ → Type 0) (f : ℕ → ℕ) (xs : List (Option ℕ)) → P 0 → ((i : ℕ) → P (f (position_in xs i))) → (i : ℕ) → P (position_in (map (option_map f) xs) i)
position_map P f [] h k i = h
position_map P f (None ∷ xs) h k zero = h
position_map P f (Some x ∷ xs) h k zero = k zero
position_map P f (x ∷ xs) h k (suc i) = position_map P f xs h (λ j. k (suc j)) i

pub map_map : (f g : ℕ → ℕ) (xs : List (Option ℕ)) → map (option_map f) (map (option_map g) xs) ≡ map (option_map (λ p. f (g p))) xs
map_map f g [] = refl
map_map f g (None ∷ xs) = ap (λ l. None ∷ l) (map_map f g xs)
map_map f g (Some x ∷ xs) = ap (λ l. Some (f (g x)) ∷ l) (map_map f g xs)

pub map_same : (f g : ℕ → ℕ) (xs : List (Option ℕ)) → ((i : ℕ) → f (position_in xs i) ≡ g (position_in xs i)) → map (option_map f) xs ≡ map (option_map g) xs
map_same f g [] h = refl
map_same f g (None ∷ xs) h = ap (λ l. None ∷ l) (map_same f g xs (λ i. h (suc i)))
map_same f g (Some x ∷ xs) h = ap₂ (λ y l. Some y ∷ l) (h zero) (map_same f g xs (λ i. h (suc i)))

pub mark_map : (f : ℕ → ℕ) (xs : List (Option ℕ)) (i : ℕ) → mark_in (map (option_map f) xs) i ≡ option_map f (mark_in xs i)
mark_map f [] i = refl
mark_map f (None ∷ xs) zero = refl
mark_map f (Some x ∷ xs) zero = refl
mark_map f (x ∷ xs) (suc i) = mark_map f xs i

-- a mark as the slab tells it
pub mark_told : (f : ℕ → ℕ) (xs : List (Option ℕ)) (i : ℕ) → mark_in (map (option_map f) xs) i ≡ option_map f (get_or xs i None)
mark_told f xs i = mark_map f xs i ∙ ap (option_map f) (mark_in_get xs i)

some_before : (f : ℕ → ℕ) (o : Option ℕ) → IsSome (option_map f o) → IsSome o
some_before f None h = h
some_before f (Some x) h = h

-- a slot holds a place where the marks have a mark
pub slot_used : (f : ℕ → ℕ) (xs : List (Option ℕ)) (id slot : ℕ) → slot ≡ id → IsSome (mark_in (map (option_map f) xs) id) → IsSome (get_or xs slot None)
slot_used f xs id slot same used = rw same (some_before f (get_or xs id None) (subst (λ o. IsSome o) (mark_told f xs id) used))

-- marks are as many wherever they stand
pub count_moved : (f : ℕ → ℕ) (xs : List (Option ℕ)) → count_by is_some xs ≡ count_by is_some (map (option_map f) xs)
count_moved f [] = refl
count_moved f (None ∷ xs) = sum_by-cons (λ (o : Option ℕ). cond (is_some o) 1 0) None xs ∙ ap (λ n. 0 + n) (count_moved f xs) ∙ sym (sum_by-cons (λ (o : Option ℕ). cond (is_some o) 1 0) None (map (option_map f) xs))
count_moved f (Some x ∷ xs) = sum_by-cons (λ (o : Option ℕ). cond (is_some o) 1 0) (Some x) xs ∙ ap (λ n. 1 + n) (count_moved f xs) ∙ sym (sum_by-cons (λ (o : Option ℕ). cond (is_some o) 1 0) (Some (f x)) (map (option_map f) xs))
