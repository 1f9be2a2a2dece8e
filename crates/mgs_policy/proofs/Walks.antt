-- One walk over a list of entries decides on all wanted rights together: what is decided by the entries from one on, after that entry.
use Rattle.std.proofs.Common.{◌≡◌, ℕ, ◌+◌, ◌<◌, ◌≤◌, refl, sym, ap, ap₂, ◌∙◌, Bool, true, false, cond, eqb, w32, List, [], ◌∷◌, Option, Some, None, arith}
use Rattle.std.specs.Prelude.{find, filter, filter_map, not, ◌&&◌, nat_lt, min, slice_get, ◌-◌, ◌/◌, ◌%◌, ◌^◌}
use Rattle.std.specs.List.{best_of, cons_option}
use Rattle.std.specs.Int.{bit_at}
use Rattle.std.specs.Int.Bits.{bit_and}
use Rattle.std.proofs.lemmas.Nat.Bits.{bit_at_and, bit_at_not, bit_at-lt}
use Rattle.std.proofs.lemmas.Bool.{cond_above, cond_below}
use Rattle.std.proofs.lemmas.Bool.Decides.{nat_tests}
use Rattle.std.proofs.lemmas.List.{drop_more, drop_all}
use Rattle.mgs_model.specs.Rights.{bit_of, has_right, all_rights, rights_in}
use Rattle.mgs_model.specs.declared.right.Right.{Right}
use Rattle.mgs_model.specs.declared.right.Right.TheVariants.{ReadData, WriteData, AppendData, ReadAttributes, Delete, ReadAcl, WriteAcl, WriteOwner}
use Rattle.mgs_model.specs.declared.entry.Entry.{Entry}
use Rattle.mgs_model.specs.declared.entry.EntryType.{EntryType}
use Rattle.mgs_model.specs.declared.entry.EntryType.TheVariants.{Allow, Deny}
use Rattle.mgs_model.specs.declared.entry.Decision.{Decision}
use Rattle.mgs_model.specs.declared.entry.Decision.TheVariants.{Granted, DeniedBy}
use Rattle.mgs_model.specs.Access.{Directory, Decider, Nobody, Allows, Denies, matches, concerns, decided, decider, decider_of, decider_from, decision_by, decision, denial_of, is_nobody}
use Rattle.mgs_model.specs.declared.owners.Owners.{Owners}
use Rattle.mgs_acl.proofs.Masks.{place, bit_of-place}
use Rattle.mgs_policy.specs.Walk.{wanted}

-- who decides, where the rights that pass are decided by one, and the others by the rest
abbrev first : (Right → Bool) → Decider → (Right → Decider) → Right → Decider
first p d rest right = cond (p right) d (rest right)

-- what a decision is made of: the denials of wanted rights, and the first right that nobody decides
abbrev denials : (Right → Decider) → List Right → List (ℕ × Right)
denials deciders rights = filter_map (λ right. denial_of (deciders right) right) rights

abbrev undecided : (Right → Decider) → List Right → Option Right
undecided deciders rights = find (λ right. is_nobody (deciders right)) rights

-- RIGHTS THAT ARE ALLOWED NEED NO MORE

denials-allowed : (p : Right → Bool) (n : ℕ) (rest : Right → Decider) (rights : List Right) → denials (first p (Allows n) rest) rights ≡ denials rest (filter (λ right. not (p right)) rights)
denials-allowed p n rest [] = refl
denials-allowed p n rest (right ∷ rights) =
    elim (p right) as (λ b. cons_option (denial_of (cond b (Allows n) (rest right)) right) (denials (first p (Allows n) rest) rights) ≡ denials rest (cond (not b) (right ∷ filter (λ x. not (p x)) rights) (filter (λ x. not (p x)) rights))) [
      | true ↦ denials-allowed p n rest rights
      | false ↦ ap (cons_option (denial_of (rest right) right)) (denials-allowed p n rest rights)
    ]

undecided-allowed : (p : Right → Bool) (n : ℕ) (rest : Right → Decider) (rights : List Right) → undecided (first p (Allows n) rest) rights ≡ undecided rest (filter (λ right. not (p right)) rights)
undecided-allowed p n rest [] = refl
undecided-allowed p n rest (right ∷ rights) =
    elim (p right) as (λ b. cond (is_nobody (cond b (Allows n) (rest right))) (Some right) (undecided (first p (Allows n) rest) rights) ≡ undecided rest (cond (not b) (right ∷ filter (λ x. not (p x)) rights) (filter (λ x. not (p x)) rights))) [
      | true ↦ undecided-allowed p n rest rights
      | false ↦ ap (cond (is_nobody (rest right)) (Some right)) (undecided-allowed p n rest rights)
    ]

decision_by-allowed : (p : Right → Bool) (n : ℕ) (rest : Right → Decider) (rights : List Right) → decision_by (first p (Allows n) rest) rights ≡ decision_by rest (filter (λ right. not (p right)) rights)
decision_by-allowed p n rest rights = ap₂ decided (denials-allowed p n rest rights) (undecided-allowed p n rest rights)

-- AN ENTRY THAT HAS NO WANTED RIGHT DECIDES NOTHING

denials-unmet : (p : Right → Bool) (x : Decider) (rest : Right → Decider) (rights : List Right) → find p rights ≡ None → denials (first p x rest) rights ≡ denials rest rights
denials-unmet p x rest [] = λ none. refl
denials-unmet p x rest (right ∷ rights) =
    elim (p right) as (λ b. cond b (Some right) (find p rights) ≡ None → cons_option (denial_of (cond b x (rest right)) right) (denials (first p x rest) rights) ≡ denials rest (right ∷ rights)) [
      | true ↦ λ none. cc
      | false ↦ λ none. ap (cons_option (denial_of (rest right) right)) (denials-unmet p x rest rights none)
    ]

undecided-unmet : (p : Right → Bool) (x : Decider) (rest : Right → Decider) (rights : List Right) → find p rights ≡ None → undecided (first p x rest) rights ≡ undecided rest rights
undecided-unmet p x rest [] = λ none. refl
undecided-unmet p x rest (right ∷ rights) =
    elim (p right) as (λ b. cond b (Some right) (find p rights) ≡ None → cond (is_nobody (cond b x (rest right))) (Some right) (undecided (first p x rest) rights) ≡ undecided rest (right ∷ rights)) [
      | true ↦ λ none. cc
      | false ↦ λ none. ap (cond (is_nobody (rest right)) (Some right)) (undecided-unmet p x rest rights none)
    ]

decision_by-unmet : (p : Right → Bool) (x : Decider) (rest : Right → Decider) (rights : List Right) → find p rights ≡ None → decision_by (first p x rest) rights ≡ decision_by rest rights
decision_by-unmet p x rest rights none = ap₂ decided (denials-unmet p x rest rights none) (undecided-unmet p x rest rights none)

-- A DENIAL BY THE FIRST ENTRY IS THE LEAST

-- what denies does so after the n-th entry
abbrev IsAfter : ℕ → Decider → Type 0
IsAfter n (Denies m) = n < m
IsAfter n _ = Unit {0}

abbrev least : ℕ × Right → List (ℕ × Right) → ℕ × Right
least x others = best_of (λ x y. nat_lt x.0 y.0) x others

module _ (p : Right → Bool) (n : ℕ) (rest : Right → Decider) (after : (right : Right) → IsAfter n (rest right)) (denied : Right) where
  least-kept : (rights : List Right) → least (n, denied) (denials (first p (Denies n) rest) rights) ≡ (n, denied)
  least-kept [] = refl
  least-kept (right ∷ rights) =
      let others : List (ℕ × Right) = denials (first p (Denies n) rest) rights in
      let stays : least (n, denied) others ≡ (n, denied) = least-kept rights in
      let kept : (m : ℕ) → n ≤ m → least (n, denied) ((m, right) ∷ others) ≡ (n, denied) =
      λ m le. ap (λ x. least x others) (sym (cond_above m n (m, right) (n, denied) (n, denied) le refl)) ∙ stays in
      let by : (k : Decider) → IsAfter n k → least (n, denied) (cons_option (denial_of k right) others) ≡ (n, denied) =
      λ k. elim k as (λ k. IsAfter n k → least (n, denied) (cons_option (denial_of k right) others) ≡ (n, denied)) [
        | Nobody ↦ λ h. stays
        | Allows m ↦ λ h. stays
        | Denies m ↦ λ h. kept m (omega (arith, h))
      ]
      in elim (p right) as (λ b. least (n, denied) (cons_option (denial_of (cond b (Denies n) (rest right)) right) others) ≡ (n, denied)) [
        | true ↦ kept n (omega arith)
        | false ↦ by (rest right) (after right)
      ]

  least-met : (rights : List Right) (m : ℕ) (earlier : Right) → n < m → find p rights ≡ Some denied → least (m, earlier) (denials (first p (Denies n) rest) rights) ≡ (n, denied)
  least-met [] m earlier lt = λ found. cc
  least-met (right ∷ rights) m earlier lt =
      let others : List (ℕ × Right) = denials (first p (Denies n) rest) rights in
      let later : (j : ℕ) (other : Right) → n < j → find p rights ≡ Some denied → least (j, other) others ≡ (n, denied) = least-met rights in
      let by : (k : Decider) → IsAfter n k → find p rights ≡ Some denied → least (m, earlier) (cons_option (denial_of k right) others) ≡ (n, denied) =
      λ k. elim k as (λ k. IsAfter n k → find p rights ≡ Some denied → least (m, earlier) (cons_option (denial_of k right) others) ≡ (n, denied)) [
        | Nobody ↦ λ h. later m earlier lt
        | Allows j ↦ λ h. later m earlier lt
        | Denies j ↦ λ h found. elim (nat_lt j m) as (λ b. least (cond b (j, right) (m, earlier)) others ≡ (n, denied)) [ true ↦ later j right h found | false ↦ later m earlier lt found ]
      ]
      in elim (p right) as (λ b. cond b (Some right) (find p rights) ≡ Some denied → least (m, earlier) (cons_option (denial_of (cond b (Denies n) (rest right)) right) others) ≡ (n, denied)) [
        | true ↦ λ found.
            let same : right ≡ denied = cc in
            ap (λ r. least (cond (nat_lt n m) (n, r) (m, earlier)) others) same ∙ ap (λ x. least x others) (sym (cond_below n m (n, denied) (m, earlier) lt)) ∙ least-kept rights
        | false ↦ by (rest right) (after right)
      ]

  decision_by-met : (rights : List Right) (o : Option Right) → find p rights ≡ Some denied → decided (denials (first p (Denies n) rest) rights) o ≡ DeniedBy n denied
  decision_by-met [] o = λ found. cc
  decision_by-met (right ∷ rights) o =
      let others : List (ℕ × Right) = denials (first p (Denies n) rest) rights in
      let later : find p rights ≡ Some denied → decided others o ≡ DeniedBy n denied = decision_by-met rights o in
      let by : (k : Decider) → IsAfter n k → find p rights ≡ Some denied → decided (cons_option (denial_of k right) others) o ≡ DeniedBy n denied =
      λ k. elim k as (λ k. IsAfter n k → find p rights ≡ Some denied → decided (cons_option (denial_of k right) others) o ≡ DeniedBy n denied) [
        | Nobody ↦ λ h. later
        | Allows j ↦ λ h. later
        | Denies j ↦ λ h found. ap (λ x. DeniedBy x.0 x.1) (least-met rights j right h found)
      ]
      in elim (p right) as (λ b. cond b (Some right) (find p rights) ≡ Some denied → decided (cons_option (denial_of (cond b (Denies n) (rest right)) right) others) o ≡ DeniedBy n denied) [
        | true ↦ λ found.
            let same : right ≡ denied = cc in
            ap (λ r. decided ((n, r) ∷ others) o) same ∙ ap (λ x. DeniedBy x.0 x.1) (least-kept rights)
        | false ↦ by (rest right) (after right)
      ]

-- ONE ENTRY OF A LIST

after_of : (n m : ℕ) (e : Entry) → n < m → (type : EntryType) → IsAfter n (decider_of type m)
after_of n m e h Allow = tt
after_of n m e h Deny = h

after_from : (n m : ℕ) (directory : Directory) (owners : Owners) (user : List ℕ) (right : Right) (es : List Entry) → n < m → IsAfter n (decider_from m directory owners user right es)
after_from n m directory owners user right [] h = tt
after_from n m directory owners user right (e ∷ es) h =
    elim (concerns directory owners user right e) as (λ b. IsAfter n (cond b (decider_of e.entry_type m) (decider_from (m + 1) directory owners user right es))) [
      | true ↦ after_of n m e h e.entry_type
      | false ↦ after_from n (m + 1) directory owners user right es (omega arith)
    ]

-- what the entries decide, where the first is the n-th
unfoldable pub decided_from : ℕ → Directory → Owners → List ℕ → List Entry → List Right → Decision
decided_from n directory owners user es rights = decision_by (λ right. decider_from n directory owners user right es) rights

and-false : (a b : Bool) (x y : Decider) → a ≡ false → cond (a && b) x y ≡ y
and-false a b x y h = rw h refl

and-true : (a b : Bool) (x y : Decider) → a ≡ true → cond (a && b) x y ≡ cond b x y
and-true a b x y h = rw h refl

-- an entry that does not match is passed over
decided-passed : (n : ℕ) (directory : Directory) (owners : Owners) (user : List ℕ) (e : Entry) (es : List Entry) (rights : List Right) → matches directory owners user e.who ≡ false → decided_from n directory owners user (e ∷ es) rights ≡ decided_from (n + 1) directory owners user es rights
unfolding decided_from
decided-passed n directory owners user e es rights h =
    ap (λ f. decision_by f rights)
    (λ i right. and-false (matches directory owners user e.who) (has_right e.mask right) (decider_of e.entry_type n) (decider_from (n + 1) directory owners user right es) h i)

-- of an entry that matches the rights of its mask are decided, and the rest decides the others
decided-matched : (n : ℕ) (directory : Directory) (owners : Owners) (user : List ℕ) (e : Entry) (es : List Entry) (rights : List Right) → matches directory owners user e.who ≡ true → decided_from n directory owners user (e ∷ es) rights ≡ decision_by (first (has_right e.mask) (decider_of e.entry_type n) (λ right. decider_from (n + 1) directory owners user right es)) rights
unfolding decided_from
decided-matched n directory owners user e es rights h =
    ap (λ f. decision_by f rights)
    (λ i right. and-true (matches directory owners user e.who) (has_right e.mask right) (decider_of e.entry_type n) (decider_from (n + 1) directory owners user right es) h i)

-- what an ALLOW entry that matches allows is wanted no more
decided-allowed : (n : ℕ) (directory : Directory) (owners : Owners) (user : List ℕ) (e : Entry) (es : List Entry) (rights : List Right) → matches directory owners user e.who ≡ true → e.entry_type ≡ Allow → decided_from n directory owners user (e ∷ es) rights ≡ decided_from (n + 1) directory owners user es (filter (λ right. not (has_right e.mask right)) rights)
unfolding decided_from
decided-allowed n directory owners user e es rights h is =
    decided-matched n directory owners user e es rights h
    ∙ ap (λ type. decision_by (first (has_right e.mask) (decider_of type n) (λ right. decider_from (n + 1) directory owners user right es)) rights) is
    ∙ decision_by-allowed (has_right e.mask) n (λ right. decider_from (n + 1) directory owners user right es) rights

-- a matching entry with no right that is wanted is passed over
decided-unmet : (n : ℕ) (directory : Directory) (owners : Owners) (user : List ℕ) (e : Entry) (es : List Entry) (rights : List Right) → matches directory owners user e.who ≡ true → find (has_right e.mask) rights ≡ None → decided_from n directory owners user (e ∷ es) rights ≡ decided_from (n + 1) directory owners user es rights
unfolding decided_from
decided-unmet n directory owners user e es rights h none =
    decided-matched n directory owners user e es rights h
    ∙ decision_by-unmet (has_right e.mask) (decider_of e.entry_type n) (λ right. decider_from (n + 1) directory owners user right es) rights none

-- a DENY entry that matches denies the first right that is wanted and that it has
decided-denied : (n : ℕ) (directory : Directory) (owners : Owners) (user : List ℕ) (e : Entry) (es : List Entry) (rights : List Right) (denied : Right) → matches directory owners user e.who ≡ true → e.entry_type ≡ Deny → find (has_right e.mask) rights ≡ Some denied → decided_from n directory owners user (e ∷ es) rights ≡ DeniedBy n denied
unfolding decided_from
decided-denied n directory owners user e es rights denied h is found =
    decided-matched n directory owners user e es rights h
    ∙ ap (λ type. decision_by (first (has_right e.mask) (decider_of type n) (λ right. decider_from (n + 1) directory owners user right es)) rights) is
    ∙ decision_by-met (has_right e.mask) n (λ right. decider_from (n + 1) directory owners user right es) (λ right. after_from n (n + 1) directory owners user right es (omega arith)) denied rights _ found

-- AT THE END OF THE LIST

-- no entry denies, and the first right is not decided
denials-nobody : (rights : List Right) → denials (λ r. Nobody) rights ≡ []
denials-nobody [] = refl
denials-nobody (right ∷ rights) = denials-nobody rights

undecided-nobody : (rights : List Right) → undecided (λ r. Nobody) rights ≡ slice_get rights 0
undecided-nobody [] = refl
undecided-nobody (right ∷ rights) = refl

pub decided-end : (n : ℕ) (directory : Directory) (owners : Owners) (user : List ℕ) (rights : List Right) → decided_from n directory owners user [] rights ≡ decided [] (slice_get rights 0)
unfolding decided_from
decided-end n directory owners user rights = ap₂ decided (denials-nobody rights) (undecided-nobody rights)

-- the first that passes is the first of all that pass
find-first : {X : Type 0} (p : X → Bool) (xs : List X) → find p xs ≡ slice_get (filter p xs) 0
find-first p [] = refl
find-first p (x ∷ xs) =
    elim (p x) as (λ b. cond b (Some x) (find p xs) ≡ slice_get (cond b (x ∷ filter p xs) (filter p xs)) 0) [
      | true ↦ refl
      | false ↦ find-first p xs
    ]

pub first-right : (mask : ℕ) → find (has_right mask) all_rights ≡ slice_get (wanted mask) 0
unfolding wanted
first-right mask = find-first (has_right mask) all_rights

-- THE WALK

-- on no right all is granted
pub decided-none : (n : ℕ) (directory : Directory) (owners : Owners) (user : List ℕ) (es : List Entry) (mask : ℕ) → mask ≡ 0 → decided_from n directory owners user es (wanted mask) ≡ Granted
unfolding decided_from wanted
decided-none n directory owners user es mask h = ap (λ m. decided_from n directory owners user es (wanted m)) h

-- all entries
pub decided-all : (directory : Directory) (owners : Owners) (user : List ℕ) (es : List Entry) (mask : ℕ) → decided_from 1 directory owners user es (wanted mask) ≡ decision directory owners user es mask
unfolding decided_from wanted
decided-all directory owners user es mask = refl

-- what is decided with an entry more: the first wanted right that it has, whether it matches, its type, what is decided without it, and what on the rights that it does not have
abbrev pub turned : ℕ → Option Right → Bool → EntryType → Decision → Decision → Decision
turned n None matched type passed left = passed
turned n (Some right) false type passed left = passed
turned n (Some right) true Allow passed left = left
turned n (Some right) true Deny passed left = DeniedBy n right

module _ (n : ℕ) (directory : Directory) (owners : Owners) (user : List ℕ) (e : Entry) (es : List Entry) (rights : List Right) where
  turned-entry : (o : Option Right) → find (has_right e.mask) rights ≡ o → (b : Bool) → matches directory owners user e.who ≡ b → (type : EntryType) → e.entry_type ≡ type
      → decided_from n directory owners user (e ∷ es) rights
      ≡ turned n o b type (decided_from (n + 1) directory owners user es rights) (decided_from (n + 1) directory owners user es (filter (λ right. not (has_right e.mask right)) rights))
  turned-entry None found true h type is = decided-unmet n directory owners user e es rights h found
  turned-entry None found false h type is = decided-passed n directory owners user e es rights h
  turned-entry (Some right) found false h type is = decided-passed n directory owners user e es rights h
  turned-entry (Some right) found true h Allow is = decided-allowed n directory owners user e es rights h is
  turned-entry (Some right) found true h Deny is = decided-denied n directory owners user e es rights right h is found

pub decided-turned : (n : ℕ) (directory : Directory) (owners : Owners) (user : List ℕ) (e : Entry) (es : List Entry) (rights : List Right)
    → decided_from n directory owners user (e ∷ es) rights
    ≡ turned n (find (has_right e.mask) rights) (matches directory owners user e.who) e.entry_type (decided_from (n + 1) directory owners user es rights) (decided_from (n + 1) directory owners user es (filter (λ right. not (has_right e.mask right)) rights))
decided-turned n directory owners user e es rights =
    turned-entry n directory owners user e es rights (find (has_right e.mask) rights) refl (matches directory owners user e.who) refl e.entry_type refl

-- MASKS

filter-filter : {X : Type 0} (p q : X → Bool) (xs : List X) → filter p (filter q xs) ≡ filter (λ x. q x && p x) xs
filter-filter p q [] = refl
filter-filter p q (x ∷ xs) =
    elim (q x) as (λ b. filter p (cond b (x ∷ filter q xs) (filter q xs)) ≡ cond (b && p x) (x ∷ filter (λ y. q y && p y) xs) (filter (λ y. q y && p y) xs)) [
      | true ↦ ap (λ ys. cond (p x) (x ∷ ys) ys) (filter-filter p q xs)
      | false ↦ filter-filter p q xs
    ]

-- the bit of a right
has_right-bit : (mask : ℕ) (right : Right) → has_right mask right ≡ eqb (bit_at mask (place right)) 1
has_right-bit mask right = ap (λ n. eqb ((mask / n) % 2) 1) (bit_of-place right)

place-below : (right : Right) → place right < 32
place-below ReadData = omega arith
place-below WriteData = omega arith
place-below AppendData = omega arith
place-below ReadAttributes = omega arith
place-below Delete = omega arith
place-below ReadAcl = omega arith
place-below WriteAcl = omega arith
place-below WriteOwner = omega arith

bits_both : (a b : ℕ) → a < 2 → b < 2 → eqb (min a b) 1 ≡ eqb a 1 && eqb b 1
bits_both a b h k = grind (arith, nat_tests)

bit_not : (b : ℕ) → b < 2 → eqb (1 - b) 1 ≡ not (eqb b 1)
bit_not b h = grind (arith, nat_tests)

has_right-both : (a b : ℕ) (right : Right) → has_right (bit_and a b) right ≡ has_right a right && has_right b right
has_right-both a b right =
    let i = place right in
    has_right-bit (bit_and a b) right
    ∙ ap (λ n. eqb n 1) (bit_at_and a b i)
    ∙ bits_both (bit_at a i) (bit_at b i) (bit_at-lt a i) (bit_at-lt b i)
    ∙ sym (ap (λ x. x && has_right b right) (has_right-bit a right) ∙ ap (λ x. eqb (bit_at a i) 1 && x) (has_right-bit b right))

has_right-not : (b : ℕ) (right : Right) → b < 2 ^ 32 → has_right (2 ^ 32 - 1 - b) right ≡ not (has_right b right)
has_right-not b right h =
    let i = place right in
    has_right-bit (2 ^ 32 - 1 - b) right
    ∙ ap (λ n. eqb n 1) (bit_at_not w32 b i h (place-below right))
    ∙ bit_not (bit_at b i) (bit_at-lt b i)
    ∙ ap not (sym (has_right-bit b right))

-- the rights of `a & b`
rights_in-both : (a b : ℕ) → rights_in (bit_and a b) ≡ filter (has_right b) (rights_in a)
rights_in-both a b =
    ap (λ p. filter p all_rights) (λ i right. has_right-both a b right i)
    ∙ sym (filter-filter (has_right b) (has_right a) all_rights)

-- the first right of `a & b`
pub first-both : (a b : ℕ) → find (has_right (bit_and a b)) all_rights ≡ find (has_right b) (wanted a)
unfolding wanted
first-both a b = find-first (has_right (bit_and a b)) all_rights ∙ ap (λ (rights : List Right). slice_get rights 0) (rights_in-both a b) ∙ sym (find-first (has_right b) (rights_in a))

-- the rights of `a & !b`
pub rights_in-without : (a b : ℕ) → b < 2 ^ 32 → rights_in (bit_and a (2 ^ 32 - 1 - b)) ≡ filter (λ right. not (has_right b right)) (rights_in a)
rights_in-without a b h = rights_in-both a (2 ^ 32 - 1 - b) ∙ ap (λ p. filter p (rights_in a)) (λ i right. has_right-not b right h i)

-- the mask of one right has that right alone
pub decision_one : (directory : Directory) (owners : Owners) (user : List ℕ) (es : List Entry) (right : Right) → decision directory owners user es (bit_of right) ≡ decision_by (decider directory owners user es) (right ∷ [])
decision_one directory owners user es ReadData = refl
decision_one directory owners user es WriteData = refl
decision_one directory owners user es AppendData = refl
decision_one directory owners user es ReadAttributes = refl
decision_one directory owners user es Delete = refl
decision_one directory owners user es ReadAcl = refl
decision_one directory owners user es WriteAcl = refl
decision_one directory owners user es WriteOwner = refl

-- what closes the goals of the walk
pub ruleset walk = (decided-all, decided-turned, decided-none, decided-end, first-right, drop_more, drop_all)
