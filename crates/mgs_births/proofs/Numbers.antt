-- Numbers rise in the order of creation, and each is below the next.
use Rattle.std.proofs.Common.{◌≡◌, ℕ, ◌+◌, ◌≤◌, ◌<◌, ◌-◌, ◌^◌, ◌⊎◌, inl, inr, Bool, true, false, cond, List, [], ◌∷◌, ◌++◌, length, Option, Some, None, refl, sym, ap, subst, ◌∙◌, arith}
use Rattle.std.specs.Prelude.{find, min, nat_lt}
use Rattle.mgs_model.specs.Apply.{remove_first}
use Rattle.mgs_model.specs.Outcome.{Effect, Create, Kill}
use Rattle.mgs_model.proofs.Blind.{same_names}
use Rattle.mgs_model.specs.declared.limits.TheConstants.{BUFFER_LIMIT}
use Rattle.mgs_births.specs.Births.{Births, birth_after, births_after, is_birth_of, no_births, number_in, number_of}
use Rattle.mgs_births.specs.Numbers.{NumbersDiffer, NumbersEnd}
use Rattle.mgs_births.specs.declared.birth.Birth.{Birth}

abbrev AreAbove : ℕ → List Birth → Type 0
AreAbove k [] = Unit {0}
AreAbove k (x ∷ xs) = (k < x.number) × AreAbove k xs

abbrev AreBelow : ℕ → List Birth → Type 0
AreBelow k [] = Unit {0}
AreBelow k (x ∷ xs) = (x.number < k) × AreBelow k xs

abbrev AreRising : List Birth → Type 0
AreRising [] = Unit {0}
AreRising (x ∷ xs) = AreAbove x.number xs × AreRising xs

-- none has this number
abbrev AreOthers : ℕ → List Birth → Type 0
AreOthers k [] = Unit {0}
AreOthers k (x ∷ xs) = (x.number ≡ k → ⊥) × AreOthers k xs

-- ONE MORE, LAST

above_last : (k : ℕ) (x : Birth) (xs : List Birth) → AreAbove k xs → k < x.number → AreAbove k (xs ++ x ∷ [])
above_last k x [] h l = (l, tt)
above_last k x (y ∷ ys) h l = (h.0, above_last k x ys h.1 l)

below_last : (k m : ℕ) (x : Birth) (xs : List Birth) → k ≤ m → AreBelow k xs → x.number < m → AreBelow m (xs ++ x ∷ [])
below_last k m x [] le h l = (l, tt)
below_last k m x (y ∷ ys) le h l = (omega (arith, le, h.0), below_last k m x ys le h.1 l)

rising_last : (x : Birth) (xs : List Birth) → AreRising xs → AreBelow x.number xs → AreRising (xs ++ x ∷ [])
rising_last x [] r b = (tt, tt)
rising_last x (y ∷ ys) r b = (above_last y.number x ys r.0 b.0, rising_last x ys r.1 b.1)

others_last : (k : ℕ) (x : Birth) (xs : List Birth) → AreOthers k xs → (x.number ≡ k → ⊥) → AreOthers k (xs ++ x ∷ [])
others_last k x [] h l = (l, tt)
others_last k x (y ∷ ys) h l = (h.0, others_last k x ys h.1 l)

below_more : (k m : ℕ) (xs : List Birth) → k ≤ m → AreBelow k xs → AreBelow m xs
below_more k m [] le h = tt
below_more k m (y ∷ ys) le h = (omega (arith, le, h.0), below_more k m ys le h.1)

-- ONE LESS

above_less : (k : ℕ) (p : Birth → Bool) (xs : List Birth) → AreAbove k xs → AreAbove k (remove_first p xs)
above_less k p [] h = tt
above_less k p (x ∷ xs) h = elim (p x) as (λ b. AreAbove k (cond b xs (x ∷ remove_first p xs))) [ true ↦ h.1 | false ↦ (h.0, above_less k p xs h.1) ]

below_less : (k : ℕ) (p : Birth → Bool) (xs : List Birth) → AreBelow k xs → AreBelow k (remove_first p xs)
below_less k p [] h = tt
below_less k p (x ∷ xs) h = elim (p x) as (λ b. AreBelow k (cond b xs (x ∷ remove_first p xs))) [ true ↦ h.1 | false ↦ (h.0, below_less k p xs h.1) ]

rising_less : (p : Birth → Bool) (xs : List Birth) → AreRising xs → AreRising (remove_first p xs)
rising_less p [] h = tt
rising_less p (x ∷ xs) h = elim (p x) as (λ b. AreRising (cond b xs (x ∷ remove_first p xs))) [ true ↦ h.1 | false ↦ (above_less x.number p xs h.0, rising_less p xs h.1) ]

others_less : (k : ℕ) (p : Birth → Bool) (xs : List Birth) → AreOthers k xs → AreOthers k (remove_first p xs)
others_less k p [] h = tt
others_less k p (x ∷ xs) h = elim (p x) as (λ b. AreOthers k (cond b xs (x ∷ remove_first p xs))) [ true ↦ h.1 | false ↦ (h.0, others_less k p xs h.1) ]

-- WHAT IS FOUND

above_found : (k : ℕ) (p : Birth → Bool) (xs : List Birth) (y : Birth) → AreAbove k xs → find p xs ≡ Some y → k < y.number
above_found k p [] y h f = cc
above_found k p (x ∷ xs) y h f = by (p x) (above_found k p xs y h.1) f
  where
    by : (b : Bool) → (find p xs ≡ Some y → k < y.number) → cond b (Some x) (find p xs) ≡ Some y → k < y.number
    by true rest e = (let is : x ≡ y = cc in subst (λ (z : Birth). k < z.number) is h.0)
    by false rest e = rest e

below_found : (k : ℕ) (p : Birth → Bool) (xs : List Birth) (y : Birth) → AreBelow k xs → find p xs ≡ Some y → y.number < k
below_found k p [] y h f = cc
below_found k p (x ∷ xs) y h f = by (p x) (below_found k p xs y h.1) f
  where
    by : (b : Bool) → (find p xs ≡ Some y → y.number < k) → cond b (Some x) (find p xs) ≡ Some y → y.number < k
    by true rest e = (let is : x ≡ y = cc in subst (λ (z : Birth). z.number < k) is h.0)
    by false rest e = rest e

others_found : (k : ℕ) (p : Birth → Bool) (xs : List Birth) (y : Birth) → AreOthers k xs → find p xs ≡ Some y → y.number ≡ k → ⊥
others_found k p [] y h f = cc
others_found k p (x ∷ xs) y h f = by (p x) (others_found k p xs y h.1) f
  where
    by : (b : Bool) → (find p xs ≡ Some y → y.number ≡ k → ⊥) → cond b (Some x) (find p xs) ≡ Some y → y.number ≡ k → ⊥
    by true rest e = (let is : x ≡ y = cc in subst (λ (z : Birth). z.number ≡ k → ⊥) is h.0)
    by false rest e = rest e

passes : (p : Birth → Bool) (xs : List Birth) (y : Birth) → find p xs ≡ Some y → p y ≡ true
passes p [] y f = cc
passes p (x ∷ xs) y f = by (p x) (passes p xs y) refl f
  where
    by : (b : Bool) → (find p xs ≡ Some y → p y ≡ true) → p x ≡ b → cond b (Some x) (find p xs) ≡ Some y → p y ≡ true
    by true rest q e = (let is : x ≡ y = cc in subst (λ (z : Birth). p z ≡ true) is q)
    by false rest q e = rest e

above_others : (k : ℕ) (xs : List Birth) → AreAbove k xs → AreOthers k xs
above_others k [] h = tt
above_others k (x ∷ xs) h = (λ e. absurd (omega (arith, h.0, e)), above_others k xs h.1)

-- the first that passes goes, and with it its number
left_others : (p : Birth → Bool) (xs : List Birth) (y : Birth) → AreRising xs → find p xs ≡ Some y → AreOthers y.number (remove_first p xs)
left_others p [] y r f = tt
left_others p (x ∷ xs) y r f = by (p x) (left_others p xs y r.1) f
  where
    by : (b : Bool) → (find p xs ≡ Some y → AreOthers y.number (remove_first p xs)) → cond b (Some x) (find p xs) ≡ Some y → AreOthers y.number (cond b xs (x ∷ remove_first p xs))
    by true rest e = (let is : x ≡ y = cc in subst (λ (z : Birth). AreOthers z.number xs) is (above_others x.number xs r.0))
    by false rest e = (λ q. absurd (omega (arith, above_found x.number p xs y r.0 e, q)), rest e)

-- what is found by one number is the same
found_same : (p q : Birth → Bool) (xs : List Birth) (u v : Birth) → AreRising xs → find p xs ≡ Some u → find q xs ≡ Some v → u.number ≡ v.number → u ≡ v
found_same p q [] u v r f g e = cc
found_same p q (x ∷ xs) u v r f g e = by (p x) (q x) (λ f g. found_same p q xs u v r.1 f g e) f g
  where
    by : (b c : Bool) → (find p xs ≡ Some u → find q xs ≡ Some v → u ≡ v) → cond b (Some x) (find p xs) ≡ Some u → cond c (Some x) (find q xs) ≡ Some v → u ≡ v
    by true true rest f g = cc
    by true false rest f g = (let is : x ≡ u = cc in absurd (omega (arith, above_found x.number q xs v r.0 g, ap (λ (z : Birth). z.number) is, e)))
    by false true rest f g = (let is : x ≡ v = cc in absurd (omega (arith, above_found x.number p xs u r.0 f, ap (λ (z : Birth). z.number) is, e)))
    by false false rest f g = rest f g

-- A REGISTER

record IsOrdered (b : Births) : Type 0 where
  rising : AreRising b.all
  below : AreBelow b.next b.all

-- no buffer has the number, and none will
record IsGone (k : ℕ) (b : Births) : Type 0 where
  passed : k < b.next
  others : AreOthers k b.all

counted : (n m : ℕ) → min (n + 1) m < m → n < min (n + 1) m
counted n m h = omega (arith, h)

next_before : (e : Effect) (b : Births) → (birth_after e b).next < 2 ^ 64 - 1 → b.next < 2 ^ 64 - 1
next_before (Create name owner) b h = below_limit b.next (2 ^ 64 - 1) h
  where
    below_limit : (n m : ℕ) → min (n + 1) m < m → n < m
    below_limit n m l = omega (arith, l)
next_before (Kill name) b h = h
next_before _ b h = h

next_first : (es : List Effect) (b : Births) → (births_after es b).next < 2 ^ 64 - 1 → b.next < 2 ^ 64 - 1
next_first [] b h = h
next_first (e ∷ es) b h = next_before e b (next_first es (birth_after e b) h)

below_of : (k m : ℕ) → k < m → k ≤ m
below_of k m h = omega (arith, h)

others_of : (k m : ℕ) → k < m → m ≡ k → ⊥
others_of k m h e = omega (arith, h, e)

ordered_made : (name : List ℕ) (b : Births) (next : ℕ) (c : Bool) → b.next < next → IsOrdered b
    → IsOrdered (record { all = cond c (b.all ++ record { name = name; number = b.next } ∷ []) b.all; next = next })
ordered_made name b next true l o = record {
  rising = rising_last (record { name = name; number = b.next }) b.all o.rising o.below;
  below = below_last b.next next (record { name = name; number = b.next }) b.all (below_of b.next next l) o.below l;
}
ordered_made name b next false l o = record { rising = o.rising; below = below_more b.next next b.all (below_of b.next next l) o.below }

ordered_after : (e : Effect) (b : Births) → (birth_after e b).next < 2 ^ 64 - 1 → IsOrdered b → IsOrdered (birth_after e b)
ordered_after (Create name owner) b h o = ordered_made name b (min (b.next + 1) (2 ^ 64 - 1)) (nat_lt (length b.all) BUFFER_LIMIT) (counted b.next (2 ^ 64 - 1) h) o
ordered_after (Kill name) b h o = record { rising = rising_less (is_birth_of name) b.all o.rising; below = below_less b.next (is_birth_of name) b.all o.below }
ordered_after _ b h o = o

ordered_all : (es : List Effect) (b : Births) → (births_after es b).next < 2 ^ 64 - 1 → IsOrdered b → IsOrdered (births_after es b)
ordered_all [] b h o = o
ordered_all (e ∷ es) b h o = ordered_all es (birth_after e b) h (ordered_after e b (next_first es (birth_after e b) h) o)

gone_made : (k : ℕ) (name : List ℕ) (b : Births) (next : ℕ) (c : Bool) → b.next < next → IsGone k b
    → IsGone k (record { all = cond c (b.all ++ record { name = name; number = b.next } ∷ []) b.all; next = next })
gone_made k name b next true l g = record {
  passed = omega (arith, l, g.passed);
  others = others_last k (record { name = name; number = b.next }) b.all g.others (others_of k b.next g.passed);
}
gone_made k name b next false l g = record { passed = omega (arith, l, g.passed); others = g.others }

gone_after : (k : ℕ) (e : Effect) (b : Births) → (birth_after e b).next < 2 ^ 64 - 1 → IsGone k b → IsGone k (birth_after e b)
gone_after k (Create name owner) b h g = gone_made k name b (min (b.next + 1) (2 ^ 64 - 1)) (nat_lt (length b.all) BUFFER_LIMIT) (counted b.next (2 ^ 64 - 1) h) g
gone_after k (Kill name) b h g = record { passed = g.passed; others = others_less k (is_birth_of name) b.all g.others }
gone_after k _ b h g = g

gone_all : (k : ℕ) (es : List Effect) (b : Births) → (births_after es b).next < 2 ^ 64 - 1 → IsGone k b → IsGone k (births_after es b)
gone_all k [] b h g = g
gone_all k (e ∷ es) b h g = gone_all k es (birth_after e b) h (gone_after k e b (next_first es (birth_after e b) h) g)

gone_killed : (name : List ℕ) (b : Births) (y : Birth) → IsOrdered b → find (is_birth_of name) b.all ≡ Some y → IsGone y.number (birth_after (Kill name) b)
gone_killed name b y o f = record { passed = below_found b.next (is_birth_of name) b.all y o.below f; others = left_others (is_birth_of name) b.all y o.rising f }

ordered_first : IsOrdered no_births
ordered_first = record { rising = tt; below = tt }

-- THE LAWS

differ_in : (b : Births) (m n : List ℕ) → IsOrdered b → (o p : Option Birth) → find (is_birth_of m) b.all ≡ o → find (is_birth_of n) b.all ≡ p → number_in o ≡ number_in p → (number_in p ≡ 0) ⊎ (m ≡ n)
differ_in b m n r o None f g e = inl refl
differ_in b m n r None (Some y) f g e = inl (sym e)
differ_in b m n r (Some x) (Some y) f g e =
    let is : x ≡ y = found_same (is_birth_of m) (is_birth_of n) b.all x y r.rising f g e in
    inr (same_names m x.name (passes (is_birth_of m) b.all x f) ∙ ap (λ (z : Birth). z.name) is ∙ sym (same_names n y.name (passes (is_birth_of n) b.all y g)))

pub numbers_differ : NumbersDiffer
numbers_differ es m n h e =
    let b = births_after es no_births in
    differ_in b m n (ordered_all es no_births h ordered_first) (find (is_birth_of m) b.all) (find (is_birth_of n) b.all) refl refl e

no_number : (k : ℕ) (c : Births) (m : List ℕ) → IsGone k c → (o : Option Birth) → find (is_birth_of m) c.all ≡ o → number_in o ≡ k → k ≡ 0
no_number k c m g None f e = sym e
no_number k c m g (Some z) f e = absurd (others_found k (is_birth_of m) c.all z g.others f e)

end_in : (b : Births) (fs : List Effect) (m n : List ℕ) → IsOrdered b → (births_after (Kill n ∷ fs) b).next < 2 ^ 64 - 1 → (p : Option Birth) → find (is_birth_of n) b.all ≡ p
    → number_of m (births_after (Kill n ∷ fs) b) ≡ number_in p → number_in p ≡ 0
end_in b fs m n o h None f e = refl
end_in b fs m n o h (Some y) f e =
    let c = births_after (Kill n ∷ fs) b in
    no_number y.number c m (gone_all y.number fs (birth_after (Kill n) b) h (gone_killed n b y o f)) (find (is_birth_of m) c.all) refl e

pub numbers_end : NumbersEnd
numbers_end es fs m n h e =
    let b = births_after es no_births in
    end_in b fs m n (ordered_all es no_births (next_first (Kill n ∷ fs) b h) ordered_first) h (find (is_birth_of n) b.all) refl e
