-- Sums of uses over a list: what is used once is in one place.
use Rattle.std.proofs.Common.{◌≡◌, ℕ, zero, suc, ◌+◌, ◌≤◌, Bool, true, false, cond, List, [], ◌∷◌, map, Some, refl, sym, ap, ◌∙◌, arith}
use Rattle.std.specs.Prelude.{find, slice_get}
use Rattle.mgs_model.specs.Apply.{change_first}
use Rattle.mgs_model.specs.Apply.{change_at}
use Rattle.mgs_world.specs.Sound.{sum_of}

-- where nothing is used, two maps agree
pub map_unused : {A B : Type 0} (used : A → ℕ) (F G : A → B) → ((a : A) → used a ≡ 0 → F a ≡ G a) → (xs : List A) → sum_of used xs ≡ 0 → map F xs ≡ map G xs
map_unused used F G same [] h = refl
map_unused used F G same (x ∷ xs) h =
    ap (λ y. y ∷ map F xs) (same x (omega (arith, h))) ∙ ap (λ ys. G x ∷ ys) (map_unused used F G same xs (omega (arith, h)))

pub sum_at : {A : Type 0} (used : A → ℕ) (a : A) (xs : List A) (i : ℕ) → slice_get xs i ≡ Some a → used a ≤ sum_of used xs
sum_at used a [] i is = cc
sum_at used a (x ∷ xs) zero is = let e : x ≡ a = cc in let u : used x ≡ used a = ap used e in omega (arith, u)
sum_at used a (x ∷ xs) (suc i) is = omega (arith, sum_at used a xs i is)

pub sum_found : {A : Type 0} (used : A → ℕ) (p : A → Bool) (a : A) (xs : List A) → find p xs ≡ Some a → used a ≤ sum_of used xs
sum_found used p a [] is = cc
sum_found {A = A} used p a (x ∷ xs) is = go (p x) is (sum_found used p a xs)
  where
    go : (b : Bool) → cond b (Some x) (find p xs) ≡ Some a → (find p xs ≡ Some a → used a ≤ sum_of used xs) → used a ≤ used x + sum_of used xs
    go true is rest = let e : x ≡ a = cc in let u : used x ≡ used a = ap used e in omega (arith, u)
    go false is rest = omega (arith, rest is)

-- what is used at one place, and at most once
pub map_used_at : {A B : Type 0} (used : A → ℕ) (F G : A → B) (f : B → B) → ((a : A) → used a ≡ 0 → F a ≡ G a) → (a : A) → 1 ≤ used a → F a ≡ f (G a) → (xs : List A) (i : ℕ) → slice_get xs i ≡ Some a → sum_of used xs ≤ 1 → map F xs ≡ change_at i f (map G xs)
map_used_at used F G f same a once does [] i is h = cc
map_used_at used F G f same a once does (x ∷ xs) zero is h =
    let e : x ≡ a = cc in
    let u : used x ≡ used a = ap used e in
    ap (λ ys. F x ∷ ys) (map_unused used F G same xs (omega (arith, u)))
    ∙ ap (λ y. y ∷ map G xs) (ap F e ∙ does ∙ ap (λ z. f (G z)) (sym e))
map_used_at used F G f same a once does (x ∷ xs) (suc i) is h =
    let rest : 1 ≤ sum_of used xs = omega (arith, once, sum_at used a xs i is) in
    ap (λ y. y ∷ map F xs) (same x (omega arith)) ∙ ap (λ ys. G x ∷ ys) (map_used_at used F G f same a once does xs i is (omega arith))

-- the same at the first that passes
pub map_used_first : {A B : Type 0} (used : A → ℕ) (F G : A → B) (f : B → B) (p : A → Bool) (q : B → Bool) → ((a : A) → used a ≡ 0 → F a ≡ G a) → ((a : A) → q (G a) ≡ p a) → (a : A) → 1 ≤ used a → F a ≡ f (G a) → (xs : List A) → find p xs ≡ Some a → sum_of used xs ≤ 1 → map F xs ≡ change_first q f (map G xs)
map_used_first used F G f p q same agree a once does [] is h = cc
map_used_first {A = A} {B = B} used F G f p q same agree a once does (x ∷ xs) is h =
    go (p x) is (map_used_first used F G f p q same agree a once does xs) ∙ ap (λ b. cond b (f (G x) ∷ map G xs) (G x ∷ change_first q f (map G xs))) (sym (agree x))
  where
    go : (b : Bool) → cond b (Some x) (find p xs) ≡ Some a → (find p xs ≡ Some a → sum_of used xs ≤ 1 → map F xs ≡ change_first q f (map G xs)) → F x ∷ map F xs ≡ cond b (f (G x) ∷ map G xs) (G x ∷ change_first q f (map G xs))
    go true is rest =
        let e : x ≡ a = cc in
        let u : used x ≡ used a = ap used e in
        ap (λ ys. F x ∷ ys) (map_unused used F G same xs (omega (arith, u)))
        ∙ ap (λ y. y ∷ map G xs) (ap F e ∙ does ∙ ap (λ z. f (G z)) (sym e))
    go false is rest =
        let some : 1 ≤ sum_of used xs = omega (arith, once, sum_found used p a xs is) in
        ap (λ y. y ∷ map F xs) (same x (omega arith)) ∙ ap (λ ys. G x ∷ ys) (rest is (omega arith))
