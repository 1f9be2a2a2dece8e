-- Lists by an id: what is found, the first that passes, and what holds where no id stands twice.
use Rattle.std.proofs.Common.{◌≡◌, ℕ, zero, suc, ◌+◌, not, Bool, true, false, cond, List, [], ◌∷◌, ◌++◌, map, Option, Some, None, refl, sym, ap, subst, ◌∙◌, eq-eqb, one-add, arith}
use Rattle.std.specs.Prelude.{find, nat_eq, slice_get, All}
use Rattle.std.specs.Cmp.{unsigned_Decides}
use Rattle.std.specs.List.{position_or_len, remove}
use Rattle.std.specs.Option.{option_or, option_map}
use Rattle.std.proofs.lemmas.Bool.Decides.{nat_tests}
use Rattle.std.proofs.lemmas.List.{map-id}
use Rattle.std.proofs.lemmas.List.Elements.{All-head, All-tail, All-cons, All-nil, All-append}
use Rattle.std.proofs.lemmas.List.Folds.{find-append, find_at}
use Rattle.std.proofs.lemmas.Option.{slice_get-map, get_or_from_slice_get, slice_get_within}
use Rattle.mgs_model.specs.Apply.{change_first, remove_first}
use Rattle.mgs_world.specs.declared.size.Size.{Size}
use Rattle.mgs_model.specs.World.{World, has_id, find_session}
use Rattle.mgs_model.proofs.Firsts.{find-map}
use Rattle.mgs_world.specs.Worlds.{find_size, is_size_of, session_size, sizes, IsOther, IsUnique}
use Rattle.mgs_core.specs.Held.{AreBelow, AreRising, IsBefore}
use Rattle.mgs_world.proofs.Killed.{find_removed}

-- WHAT IS FOUND

pub same_some : {A : Type 0} (a b : A) → Some a ≡ Some b → a ≡ b
same_some a b e = cc

pub some_of : {A B : Type 0} (f : A → B) (o : Option A) (b : B) → option_map f o ≡ Some b → (a : A) × (o ≡ Some a) × (f a ≡ b)
some_of f None b e = cc
some_of f (Some a) b e = (a, refl, cc)

pub none_of : {A B : Type 0} (f : A → B) (o : Option A) → option_map f o ≡ None → o ≡ None
none_of f None e = refl
none_of f (Some a) e = cc

-- what holds of each holds of the one at a place
pub all_got : {A : Type 0} (P : A → Type 0) (xs : List A) (i : ℕ) (x : A) → All P xs → slice_get xs i ≡ Some x → P x
all_got P xs i x h e = subst P (get_or_from_slice_get xs i x x e) (h i x (slice_get_within xs i x e))

-- and of the one that is found
pub All-found : {A : Type 0} (P : A → Type 0) (p : A → Bool) (xs : List A) (x : A) → All P xs → find p xs ≡ Some x → P x
All-found P p xs x h e = all_got P xs (position_or_len p xs) x h (sym (find_at p xs) ∙ e)

pub mapped_got : {A B : Type 0} (f : A → B) (xs : List A) (i : ℕ) (x : A) → slice_get xs i ≡ Some x → slice_get (map f xs) i ≡ Some (f x)
mapped_got f xs i x e = slice_get-map f xs i ∙ ap (option_map f) e

-- the size of a session is found where the session is
pub found_sizes : (id : ℕ) (w : World) → find_size id (sizes w) ≡ option_map session_size (find_session id w.sessions)
found_sizes id w = find-map session_size (has_id id) (is_size_of id) (λ x. refl) w.sessions

pub All-unmap : {A B : Type 0} (P : B → Type 0) (f : A → B) (xs : List A) → All P (map f xs) → All (λ x. P (f x)) xs
All-unmap P f [] h = All-nil (λ x. P (f x))
All-unmap P f (x ∷ xs) h = All-cons (λ x. P (f x)) x xs (All-head P (f x) (map f xs) h) (All-unmap P f xs (All-tail P (f x) (map f xs) h))

-- THE FIRST THAT PASSES GOES

-- it goes by its place
pub remove_at_first : {A : Type 0} (p : A → Bool) (xs : List A) → remove xs (position_or_len p xs) ≡ remove_first p xs
remove_at_first p [] = refl
remove_at_first {A = A} p (x ∷ xs) =
    elim (p x) as (λ b. remove (x ∷ xs) (cond (not b) (1 + position_or_len p xs) 0) ≡ cond b xs (x ∷ remove_first p xs)) [
      | true ↦ refl
      | false ↦ rw one-add (ap (λ ys. x ∷ ys) (remove_at_first p xs))
    ]

-- where none passes, none goes
pub remove_none : {A : Type 0} (p : A → Bool) (xs : List A) → find p xs ≡ None → remove_first p xs ≡ xs
remove_none p [] h = refl
remove_none p (x ∷ xs) h =
    (elim (p x) as (λ b. cond b (Some x) (find p xs) ≡ None → cond b xs (x ∷ remove_first p xs) ≡ x ∷ xs) [ true ↦ λ e. cc | false ↦ λ e. ap (λ ys. x ∷ ys) (remove_none p xs e) ]) h

-- a map of both
pub map-remove_first : {A B : Type 0} (h : A → B) (p : A → Bool) (q : B → Bool) → ((x : A) → q (h x) ≡ p x) → (xs : List A) → map h (remove_first p xs) ≡ remove_first q (map h xs)
map-remove_first h p q same [] = refl
map-remove_first h p q same (x ∷ xs) =
    elim (p x) as (λ b. map h (cond b xs (x ∷ remove_first p xs)) ≡ cond b (map h xs) (h x ∷ remove_first q (map h xs))) [ true ↦ refl | false ↦ ap (λ ys. h x ∷ ys) (map-remove_first h p q same xs) ]
    ∙ ap (λ b. cond b (map h xs) (h x ∷ remove_first q (map h xs))) (sym (same x))

-- and by its place below a map
pub map-remove_at : {A B : Type 0} (h : A → B) (p : B → Bool) (at : ℕ) (xs : List A) → at ≡ position_or_len (λ x. p (h x)) xs → map h (remove xs at) ≡ remove_first p (map h xs)
map-remove_at h p at xs place =
    ap (λ n. map h (remove xs n)) place ∙ ap (map h) (remove_at_first (λ x. p (h x)) xs) ∙ map-remove_first h (λ x. p (h x)) p (λ x. refl) xs

pub All-remove_first : {A : Type 0} (P : A → Type 0) (p : A → Bool) (xs : List A) → All P xs → All P (remove_first p xs)
All-remove_first P p [] h = h
All-remove_first P p (x ∷ xs) h =
    let rest : All P xs = All-tail P x xs h in
    elim (p x) as (λ b. All P (cond b xs (x ∷ remove_first p xs))) [
      | true ↦ rest
      | false ↦ All-cons P x (remove_first p xs) (All-head P x xs h) (All-remove_first P p xs rest)
    ]

-- a look-up by a test that fails where one goes
pub find-remove_first_other : {A : Type 0} (p q : A → Bool) → ((x : A) → p x ≡ true → q x ≡ false) → (xs : List A) → find q (remove_first p xs) ≡ find q xs
find-remove_first_other p q apart xs = find_removed p q apart xs

-- where none passes, none is changed
pub change_none : {A : Type 0} (p : A → Bool) (f : A → A) (xs : List A) → find p xs ≡ None → change_first p f xs ≡ xs
change_none p f [] h = refl
change_none p f (x ∷ xs) h =
    (elim (p x) as (λ b. cond b (Some x) (find p xs) ≡ None → cond b (f x ∷ xs) (x ∷ change_first p f xs) ≡ x ∷ xs) [ true ↦ λ e. cc | false ↦ λ e. ap (λ ys. x ∷ ys) (change_none p f xs e) ]) h

-- WHERE NO ID STANDS TWICE

-- what stands at a place is found by its id
pub unique_found : {A : Type 0} (of : A → Size) (xs : List A) → IsUnique (map of xs) → (at : ℕ) (x : A) → slice_get xs at ≡ Some x → find (λ y. is_size_of (of x).id (of y)) xs ≡ Some x
unique_found of [] u at x is = cc
unique_found {A = A} of (z ∷ zs) u zero x is =
    subst (λ (s : A). find (λ y. is_size_of (of s).id (of y)) (z ∷ zs) ≡ Some s) (same_some z x is)
    (ap (λ b. cond b (Some z) (find (λ y. is_size_of (of z).id (of y)) zs)) (eq-eqb (of z).id (of z).id refl))
unique_found of (z ∷ zs) u (suc at) x is =
    ap (λ b. cond b (Some z) (find (λ y. is_size_of (of x).id (of y)) zs)) (all_got (IsOther (of z)) (map of zs) at (of x) u.0 (mapped_got of zs at x is)) ∙ unique_found of zs u.1 at x is

pub known_at : (ss : List Size) (at : ℕ) (x : Size) → IsUnique ss → slice_get ss at ≡ Some x → find_size x.id ss ≡ Some x
known_at ss at x u is = unique_found (λ (s : Size). s) ss (subst IsUnique (sym (map-id ss)) u) at x is

-- one more id
pub unique_opened : (y : Size) (xs : List Size) → find_size y.id xs ≡ None → IsUnique xs → IsUnique (xs ++ y ∷ [])
unique_opened y [] h u = (All-nil (IsOther y), tt)
unique_opened y (x ∷ xs) h u =
    (elim (nat_eq x.id y.id) as (λ b. nat_eq x.id y.id ≡ b → cond b (Some x) (find_size y.id xs) ≡ None → IsUnique ((x ∷ xs) ++ y ∷ [])) [
      | true ↦ λ e n. cc
      | false ↦ λ e n. (All-append (IsOther x) xs (y ∷ []) u.0 (All-cons (IsOther x) y [] e (All-nil (IsOther x))), unique_opened y xs n u.1)
    ]) refl h

pub known_last : (ss : List Size) (y : Size) → find_size y.id ss ≡ None → find_size y.id (ss ++ y ∷ []) ≡ Some y
known_last ss y h =
    find-append (is_size_of y.id) ss (y ∷ [])
    ∙ ap (λ o. option_or o (find_size y.id (y ∷ []))) h
    ∙ ap (λ b. cond b (Some y) None) (eq-eqb y.id y.id refl)

-- one id less
pub unique_removed : (p : Size → Bool) (xs : List Size) → IsUnique xs → IsUnique (remove_first p xs)
unique_removed p [] u = u
unique_removed p (x ∷ xs) u =
    elim (p x) as (λ b. IsUnique (cond b xs (x ∷ remove_first p xs))) [ true ↦ u.1 | false ↦ (All-remove_first (IsOther x) p xs u.0, unique_removed p xs u.1) ]

-- IN THE ORDER OF THEIR IDS

-- one more, which is above all
pub rising_opened : (y : Size) (xs : List Size) → AreBelow y.id xs → AreRising xs → AreRising (xs ++ y ∷ [])
rising_opened y [] h r = (All-nil (IsBefore y), tt)
rising_opened y (x ∷ xs) h r = (All-append (IsBefore x) xs (y ∷ []) r.0 (All-cons (IsBefore x) y [] h.0 (All-nil (IsBefore x))), rising_opened y xs h.1 r.1)

-- one less
pub rising_removed : (p : Size → Bool) (xs : List Size) → AreRising xs → AreRising (remove_first p xs)
rising_removed p [] r = r
rising_removed p (x ∷ xs) r =
    elim (p x) as (λ b. AreRising (cond b xs (x ∷ remove_first p xs))) [ true ↦ r.1 | false ↦ (All-remove_first (IsBefore x) p xs r.0, rising_removed p xs r.1) ]

-- OTHER IDS

pub differ : (a b : ℕ) → nat_eq a b ≡ false → nat_eq b a ≡ false
differ a b e = grind (arith, nat_tests)

-- the others have other ids
pub others_left : {A : Type 0} (of : A → Size) (id : ℕ) (xs : List A) → IsUnique (map of xs) → All (λ x. nat_eq id (of x).id ≡ false) (remove_first (λ x. is_size_of id (of x)) xs)
others_left of id [] u = All-nil (λ x. nat_eq id (of x).id ≡ false)
others_left {A = A} of id (x ∷ xs) u =
    let P : A → Type 0 = λ y. nat_eq id (of y).id ≡ false in
    (elim (nat_eq (of x).id id) as (λ b. nat_eq (of x).id id ≡ b → All P (cond b xs (x ∷ remove_first (λ y. is_size_of id (of y)) xs))) [
      | true ↦ λ e. subst (λ (n : ℕ). All (λ y. nat_eq n (of y).id ≡ false) xs) ((unsigned_Decides (of x).id id).0 e) (All-unmap (IsOther (of x)) of xs u.0)
      | false ↦ λ e. All-cons P x (remove_first (λ y. is_size_of id (of y)) xs) (differ (of x).id id e) (others_left of id xs u.1)
    ]) refl
