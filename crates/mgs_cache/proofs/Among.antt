-- Lists each of whose elements is in another.
use Rattle.std.proofs.Common.{◌≡◌, inl, inr, List, [], ◌∷◌, map, Contains, subst}
use Rattle.lru.proofs.Splits.{Contains-head, Contains-tail, Contains-cons, Contains-nil}
use Rattle.mgs_cache.specs.Kept.{Kept, AreAmong}

-- what an element is mapped to is in the map
pub Contains-map : {A B : Type 0} (f : A → B) (xs : List A) (x : A) → Contains xs x → Contains (map f xs) (f x)
Contains-map f [] x h = absurd (Contains-nil x h)
Contains-map f (y ∷ xs) x h = elim (Contains-cons y xs x h) [
  | inl e ↦ subst (λ z. Contains (f y ∷ map f xs) (f z)) e (Contains-head (f y) (map f xs))
  | inr r ↦ Contains-tail (f y) (map f xs) (f x) (Contains-map f xs x r)
]

-- what is in the map is what an element is mapped to
pub Contains-from_map : {A B : Type 0} (f : A → B) (xs : List A) (y : B) → Contains (map f xs) y → (x : A) × Contains xs x × (f x ≡ y)
Contains-from_map f [] y h = absurd (Contains-nil y h)
Contains-from_map f (x ∷ xs) y h = elim (Contains-cons (f x) (map f xs) y h) [
  | inl e ↦ (x, Contains-head x xs, e)
  | inr r ↦ let on = Contains-from_map f xs y r in (on.0, Contains-tail x xs on.0 on.1, on.2)
]

pub among_one : (those : List Kept) (k : Kept) → AreAmong those (k ∷ those)
among_one those k = record { each = λ x c. Contains-tail k those x c }

pub among_more : (these those : List Kept) (k : Kept) → AreAmong these those → AreAmong these (k ∷ those)
among_more these those k h = record { each = λ x c. Contains-tail k those x (h.each x c) }

-- one more, and then no more
pub among_after : (these middle those : List Kept) (k : Kept) → AreAmong these (k ∷ middle) → AreAmong middle those → AreAmong these (k ∷ those)
among_after these middle those k h m = record {
  each = λ x c. elim (Contains-cons k middle x (h.each x c)) [
    | inl e ↦ subst (Contains (k ∷ those)) e (Contains-head k those)
    | inr r ↦ Contains-tail k those x (m.each x r)
  ];
}
