-- Buffers that have no mark in use.
use Rattle.std.proofs.Common.{◌≡◌, ℕ, Bool, true, false, cond, List, [], ◌∷◌, ◌++◌, map, Option, Some, None, refl, ap}
use Rattle.std.specs.Prelude.{find}
use Rattle.mgs_marks.specs.Marks.{mark_in}
use Rattle.mgs_buffers.specs.MarkedBuffer.{MarkedBuffer, AreUnmarked, marked_named, marked_or_none}

pub unmarked_none : AreUnmarked []
unmarked_none = record { none = λ name id. refl }

none_last : (name : List ℕ) (id : ℕ) (ks : List MarkedBuffer) (k : MarkedBuffer) → k.marks ≡ [] → mark_in (marked_or_none (find (marked_named name) ks)).marks id ≡ None → mark_in (marked_or_none (find (marked_named name) (ks ++ k ∷ []))).marks id ≡ None
none_last name id [] k e h =
    elim (marked_named name k) as (λ b. mark_in (marked_or_none (cond b (Some k) None)).marks id ≡ None) [ true ↦ ap (λ (ms : List (Option ℕ)). mark_in ms id) e | false ↦ refl ]
none_last name id (x ∷ xs) k e h =
    let found : Bool → List MarkedBuffer → Option ℕ = λ b ys. mark_in (marked_or_none (cond b (Some x) (find (marked_named name) ys))).marks id in
    let go : (b : Bool) → found b xs ≡ None → found b (xs ++ k ∷ []) ≡ None = λ b. elim b as (λ b. found b xs ≡ None → found b (xs ++ k ∷ []) ≡ None) [ true ↦ λ h. h | false ↦ λ h. none_last name id xs k e h ] in
    go (marked_named name x) h

-- one more without marks
pub unmarked_added : (ks : List MarkedBuffer) (k : MarkedBuffer) → k.marks ≡ [] → AreUnmarked ks → AreUnmarked (ks ++ k ∷ [])
unmarked_added ks k e h = record { none = λ name id. none_last name id ks k e (h.none name id) }

none_mapped : {A : Type 0} (f : A → MarkedBuffer) → ((a : A) → (f a).marks ≡ []) → (xs : List A) (name : List ℕ) (id : ℕ) → mark_in (marked_or_none (find (marked_named name) (map f xs))).marks id ≡ None
none_mapped f e [] name id = refl
none_mapped f e (x ∷ xs) name id =
    elim (marked_named name (f x)) as (λ b. mark_in (marked_or_none (cond b (Some (f x)) (find (marked_named name) (map f xs)))).marks id ≡ None) [
      | true ↦ ap (λ (ms : List (Option ℕ)). mark_in ms id) (e x)
      | false ↦ none_mapped f e xs name id
    ]

-- buffers each of which is written down without marks
pub unmarked_map : {A : Type 0} (f : A → MarkedBuffer) → ((a : A) → (f a).marks ≡ []) → (xs : List A) → AreUnmarked (map f xs)
unmarked_map f e xs = record { none = none_mapped f e xs }
