-- What the walks over what is kept and over a configuration make.
use Rattle.std.proofs.Common.{◌≡◌, ℕ, zero, suc, ◌+◌, ◌-◌, ◌<◌, length, arith, Bool, true, false, List, [], ◌∷◌, ◌++◌, map, Some, None, if◌then◌else◌, refl, sym, ap, subst, ◌∙◌}
use Rattle.std.specs.Prelude.{◌||◌, cond, drop, find, is_some, slice_get, take}
use Rattle.mgs_laws.specs.Apart.{Rules, rules_of}
use Rattle.mgs_buffers.specs.Judging.{rules_kept}
use Rattle.mgs_buffers.specs.MarkedBuffer.{MarkedBuffer, has_buffer, marked_named}
use Rattle.mgs_journal.specs.Kept.{is_of}
use Rattle.mgs_resume.specs.Joined.{AddsOther, has_name, with_others}

module _ {A : Type 0} where
  pub taken_all : (xs : List A) (i : ℕ) → None ≡ slice_get xs i → take i xs ≡ xs
  taken_all [] zero none = refl
  taken_all [] (suc i) none = refl
  taken_all (x ∷ xs) zero none = cc
  taken_all (x ∷ xs) (suc i) none = ap (λ ys. x ∷ ys) (taken_all xs i none)

  pub taken_more : (xs : List A) (i : ℕ) (x : A) → Some x ≡ slice_get xs i → take (suc i) xs ≡ take i xs ++ x ∷ []
  taken_more [] i x at = cc
  taken_more (y ∷ xs) zero x at = cc
  taken_more (y ∷ xs) (suc i) x at = ap (λ ys. y ∷ ys) (taken_more xs i x at)

  pub dropped_all : (xs : List A) (i : ℕ) → None ≡ slice_get xs i → drop i xs ≡ []
  dropped_all [] zero none = refl
  dropped_all [] (suc i) none = refl
  dropped_all (x ∷ xs) zero none = cc
  dropped_all (x ∷ xs) (suc i) none = dropped_all xs i none

  pub past : (xs : List A) (i : ℕ) → None ≡ slice_get xs i → None ≡ slice_get xs (suc i)
  past [] i none = refl
  past (x ∷ xs) zero none = absurd cc
  past (x ∷ xs) (suc i) none = past xs i none

  pub dropped_one : (xs : List A) (i : ℕ) (x : A) → Some x ≡ slice_get xs i → drop i xs ≡ x ∷ drop (suc i) xs
  dropped_one [] i x at = cc
  dropped_one (y ∷ xs) zero x at = cc
  dropped_one (y ∷ xs) (suc i) x at = dropped_one xs i x at

-- a buffer has the name where what decides on it has
module _ {A B : Type 0} (f : A → B) (p : A → Bool) (q : B → Bool) (same : (a : A) → p a ≡ q (f a)) where
  found_both : (xs : List A) → is_some (find p xs) ≡ is_some (find q (map f xs))
  found_both [] = refl
  found_both (x ∷ xs) = by (p x) (q (f x)) (same x) (found_both xs)
    where
      by : (b c : Bool) → b ≡ c → is_some (find p xs) ≡ is_some (find q (map f xs))
          → is_some (if b then Some x else find p xs) ≡ is_some (if c then Some (f x) else find q (map f xs))
      by true true e rest = refl
      by true false e rest = absurd cc
      by false true e rest = absurd cc
      by false false e rest = rest

both_mapped : {A B C : Type 0} (f : A → B) (g : B → C) (xs : List A) → map g (map f xs) ≡ map (λ x. g (f x)) xs
both_mapped f g [] = refl
both_mapped f g (x ∷ xs) = ap (λ ys. g (f x) ∷ ys) (both_mapped f g xs)

pub has_kept : (name : List ℕ) (ks : List MarkedBuffer) → has_buffer name ks ≡ has_name name (rules_kept ks)
has_kept name ks =
    found_both (λ (k : MarkedBuffer). rules_of k.buffer) (marked_named name) (is_of name) (λ k. refl) ks
    ∙ ap (λ (rs : List Rules). is_some (find (is_of name) rs)) (sym (both_mapped (λ (k : MarkedBuffer). k.buffer) rules_of ks))

-- ONE STEP over a configuration

or_true : (b : Bool) → (b || true) ≡ true
or_true true = refl
or_true false = refl

module _ (taken : List ℕ → Bool) (i : ℕ) (rules : List Rules) where
  pub other_none : (now : List Rules) → None ≡ slice_get rules i → AddsOther taken i rules now now
  other_none now none = λ whole so. ap (with_others taken now) (dropped_all rules (suc i) (past rules i none) ∙ sym (dropped_all rules i none)) ∙ so

  -- whether it is passed over, and what comes of that
  stepped : (ks : List MarkedBuffer) (r : Rules) (b : Bool) → Some r ≡ slice_get rules i → (taken r.name || has_name r.name (rules_kept ks)) ≡ b
      → (whole : List Rules) → with_others taken (rules_kept ks) (drop i rules) ≡ whole → with_others taken (cond b (rules_kept ks) (rules_kept ks ++ r ∷ [])) (drop (suc i) rules) ≡ whole
  stepped ks r b at is whole so =
      ap (λ c. with_others taken (cond c (rules_kept ks) (rules_kept ks ++ r ∷ [])) (drop (suc i) rules)) (sym is)
      ∙ sym (ap (with_others taken (rules_kept ks)) (dropped_one rules i r at))
      ∙ so

  pub other_taken : (ks : List MarkedBuffer) (r : Rules) → Some r ≡ slice_get rules i → taken r.name ≡ true → AddsOther taken i rules (rules_kept ks) (rules_kept ks)
  other_taken ks r at is = stepped ks r true at (ap (λ b. b || has_name r.name (rules_kept ks)) is)

  pub other_had : (ks : List MarkedBuffer) (r : Rules) → Some r ≡ slice_get rules i → has_buffer r.name ks ≡ true → AddsOther taken i rules (rules_kept ks) (rules_kept ks)
  other_had ks r at has = stepped ks r true at (ap (λ b. taken r.name || b) (sym (has_kept r.name ks) ∙ has) ∙ or_true (taken r.name))

  pub other_added : (ks ls : List MarkedBuffer) (r : Rules) → Some r ≡ slice_get rules i → taken r.name ≡ false → has_buffer r.name ks ≡ false → rules_kept ls ≡ rules_kept ks ++ r ∷ []
      → AddsOther taken i rules (rules_kept ks) (rules_kept ls)
  other_added ks ls r at free has more = λ whole so.
      ap (λ now. with_others taken now (drop (suc i) rules)) more
      ∙ stepped ks r false at (ap (λ b. b || has_name r.name (rules_kept ks)) free ∙ sym (has_kept r.name ks) ∙ has) whole so

-- the place behind, as the walk counts it
pub goes_on : (taken : List ℕ → Bool) (i : ℕ) (rules now whole : List Rules) → with_others taken now (drop (suc i) rules) ≡ whole → with_others taken now (drop (i + 1) rules) ≡ whole
goes_on taken i rules now whole so =
    let same : suc i ≡ i + 1 = omega arith in
    subst (λ n. with_others taken now (drop n rules) ≡ whole) same so

-- ONE STEP over what is kept

length_mapped : {A B : Type 0} (f : A → B) (xs : List A) → length (map f xs) ≡ length xs
length_mapped f [] = refl
length_mapped f (x ∷ xs) = ap suc (length_mapped f xs)

length_kept : (ks : List MarkedBuffer) → length (rules_kept ks) ≡ length ks
length_kept ks = length_mapped rules_of (map (λ (k : MarkedBuffer). k.buffer) ks) ∙ length_mapped (λ (k : MarkedBuffer). k.buffer) ks

length_added : {A : Type 0} (xs : List A) (x : A) → length (xs ++ x ∷ []) ≡ suc (length xs)
length_added [] x = refl
length_added (y ∷ xs) x = ap suc (length_added xs x)

pub longer : (ks ls : List MarkedBuffer) (r : Rules) → rules_kept ls ≡ rules_kept ks ++ r ∷ [] → length ls ≡ suc (length ks)
longer ks ls r more = sym (length_kept ls) ∙ ap length more ∙ length_added (rules_kept ks) r ∙ ap suc (length_kept ks)

within : {A : Type 0} (xs : List A) (i : ℕ) (x : A) → Some x ≡ slice_get xs i → i < length xs
within [] i x at = absurd cc
within (y ∷ xs) zero x at = omega arith
within (y ∷ xs) (suc i) x at = let rest = within xs i x at in omega (arith, rest)

pub kept_more : (ks ls : List MarkedBuffer) (kept : List Rules) (n : ℕ) (r : Rules) → n ≡ length ks → rules_kept ks ≡ take (length ks) kept → Some r ≡ slice_get kept n
    → rules_kept ls ≡ rules_kept ks ++ r ∷ [] → rules_kept ls ≡ take (length ls) kept
kept_more ks ls kept n r place so at more =
    more ∙ ap (λ xs. xs ++ r ∷ []) so ∙ sym (taken_more kept (length ks) r (at ∙ ap (slice_get kept) place)) ∙ ap (λ m. take m kept) (sym (longer ks ls r more))

pub kept_less : (ks ls : List MarkedBuffer) (kept : List Rules) (n : ℕ) (r : Rules) → n ≡ length ks → Some r ≡ slice_get kept n
    → rules_kept ls ≡ rules_kept ks ++ r ∷ [] → length kept - length ls < length kept - length ks
kept_less ks ls kept n r place at more =
    let there = within kept n r at in
    let long = longer ks ls r more in
    omega (arith, place, there, long)

pub kept_all : (ks : List MarkedBuffer) (kept : List Rules) (n : ℕ) → n ≡ length ks → rules_kept ks ≡ take (length ks) kept → None ≡ slice_get kept n → rules_kept ks ≡ kept
kept_all ks kept n place so none = so ∙ taken_all kept (length ks) (none ∙ ap (slice_get kept) place)
