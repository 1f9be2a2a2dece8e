-- The line feeds of a text in two parts, as characters go from one part to the other.
use Rattle.std.proofs.Common.{◌≡◌, ℕ, zero, suc, ◌+◌, ◌-◌, ◌<◌, ◌≤◌, List, [], ◌∷◌, ◌++◌, length, take, drop, get_or, refl, sym, subst, ap, ap₂, ◌∙◌, arith, cond, length-append, append_assoc, add-zero, zero-add, inl, inr, eq-eqb}
use Rattle.std.specs.List.{count_by}
use Rattle.std.proofs.lemmas.List.{append-nil, take-append-drop, length-drop, length-take, get_or_append_left, get_or-append_right}
use Rattle.std.proofs.lemmas.List.Sums.{sum_by-cons}
use Rattle.std.proofs.lemmas.Bool.{ne_eqb, cases_eq, cases_lt}
use Rattle.std.proofs.Math.Seq.{get_or-append_seam}
use Rattle.mgs_model.specs.Lines.{is_feed, line_of, start_of}
use Rattle.mgs_gap.specs.Feeds.{feeds_from, ends_from, Parts}

abbrev pub one : ℕ → ℕ
one c = cond (is_feed c) 1 0

pub count_yes : (x : ℕ) (xs : List ℕ) → x ≡ 10 → count_by is_feed (x ∷ xs) ≡ 1 + count_by is_feed xs
count_yes x xs e = sum_by-cons one x xs ∙ rw (eq-eqb x 10 e) refl

pub count_no : (x : ℕ) (xs : List ℕ) → (x ≡ 10 → ⊥) → count_by is_feed (x ∷ xs) ≡ count_by is_feed xs
count_no x xs n = sum_by-cons one x xs ∙ rw (ne_eqb x 10 n) (zero-add _)

pub feeds_yes : (n x : ℕ) (xs : List ℕ) → x ≡ 10 → feeds_from n (x ∷ xs) ≡ n ∷ feeds_from (suc n) xs
feeds_yes n x xs e = rw (eq-eqb x 10 e) refl

pub feeds_no : (n x : ℕ) (xs : List ℕ) → (x ≡ 10 → ⊥) → feeds_from n (x ∷ xs) ≡ feeds_from (suc n) xs
feeds_no n x xs e = rw (ne_eqb x 10 e) refl

pub ends_yes : (m x : ℕ) (xs : List ℕ) → x ≡ 10 → ends_from m (x ∷ xs) ≡ ends_from m xs ++ suc (length xs + m) ∷ []
ends_yes m x xs e = rw (eq-eqb x 10 e) refl

pub ends_no : (m x : ℕ) (xs : List ℕ) → (x ≡ 10 → ⊥) → ends_from m (x ∷ xs) ≡ ends_from m xs
ends_no m x xs e = rw (ne_eqb x 10 e) refl

pub length-feeds_from : (n : ℕ) (xs : List ℕ) → length (feeds_from n xs) ≡ count_by is_feed xs
length-feeds_from n [] = refl
length-feeds_from n (x ∷ xs) =
    elim (cases_eq x 10) [
      | inl e ↦ ap length (feeds_yes n x xs e) ∙ omega (arith, length-feeds_from (suc n) xs, count_yes x xs e)
      | inr e ↦ ap length (feeds_no n x xs e) ∙ length-feeds_from (suc n) xs ∙ sym (count_no x xs e)
    ]

pub length-ends_from : (m : ℕ) (xs : List ℕ) → length (ends_from m xs) ≡ count_by is_feed xs
length-ends_from m [] = refl
length-ends_from m (x ∷ xs) =
    elim (cases_eq x 10) [
      | inl e ↦ ap length (ends_yes m x xs e) ∙ omega (arith, length-append (ends_from m xs) (suc (length xs + m) ∷ []), length-ends_from m xs, count_yes x xs e)
      | inr e ↦ ap length (ends_no m x xs e) ∙ length-ends_from m xs ∙ sym (count_no x xs e)
    ]

pub feeds_from-append : (n : ℕ) (xs ys : List ℕ) → feeds_from n (xs ++ ys) ≡ feeds_from n xs ++ feeds_from (n + length xs) ys
feeds_from-append n [] ys = rw add-zero refl
feeds_from-append n (x ∷ xs) ys =
    let at : suc n + length xs ≡ n + length (x ∷ xs) = omega arith in
    let rest : feeds_from (suc n) (xs ++ ys) ≡ feeds_from (suc n) xs ++ feeds_from (n + length (x ∷ xs)) ys = feeds_from-append (suc n) xs ys ∙ ap (λ k. feeds_from (suc n) xs ++ feeds_from k ys) at in
    elim (cases_eq x 10) [
      | inl e ↦ feeds_yes n x (xs ++ ys) e ∙ ap (λ l. n ∷ l) rest ∙ ap (λ l. l ++ feeds_from (n + length (x ∷ xs)) ys) (sym (feeds_yes n x xs e))
      | inr e ↦ feeds_no n x (xs ++ ys) e ∙ rest ∙ ap (λ l. l ++ feeds_from (n + length (x ∷ xs)) ys) (sym (feeds_no n x xs e))
    ]

pub ends_from-append : (m : ℕ) (xs ys : List ℕ) → ends_from m (xs ++ ys) ≡ ends_from m ys ++ ends_from (length ys + m) xs
ends_from-append m [] ys = sym (append-nil (ends_from m ys))
ends_from-append m (x ∷ xs) ys =
    let k : ℕ = length ys + m in
    let at : suc (length (xs ++ ys) + m) ≡ suc (length xs + k) = omega (arith, length-append xs ys) in
    elim (cases_eq x 10) [
      | inl e ↦ ends_yes m x (xs ++ ys) e ∙ ap₂ (λ l i. l ++ i ∷ []) (ends_from-append m xs ys) at ∙ append_assoc (ends_from m ys) (ends_from k xs) (suc (length xs + k) ∷ []) ∙ ap (λ l. ends_from m ys ++ l) (sym (ends_yes k x xs e))
      | inr e ↦ ends_no m x (xs ++ ys) e ∙ ends_from-append m xs ys ∙ ap (λ l. ends_from m ys ++ l) (sym (ends_no k x xs e))
    ]

abbrev Between : ℕ → ℕ → List ℕ → ℕ → Type 0
Between low high xs i = (low ≤ get_or xs i 0) × (get_or xs i 0 < high)

pub feeds_within : (n : ℕ) (xs : List ℕ) (i : ℕ) → i < length (feeds_from n xs) → Between n (n + length xs) (feeds_from n xs) i
feeds_within n [] i h = absurd (omega arith)
feeds_within n (x ∷ xs) zero h =
    elim (cases_eq x 10) [
      | inl e ↦ rw (feeds_yes n x xs e) (omega arith, omega arith)
      | inr e ↦ let low = feeds_within (suc n) xs zero (omega (arith, h, ap length (feeds_no n x xs e))) in rw (feeds_no n x xs e) (omega (arith, low.0), omega (arith, low.1))
    ]
feeds_within n (x ∷ xs) (suc i) h =
    elim (cases_eq x 10) [
      | inl e ↦ let low = feeds_within (suc n) xs i (omega (arith, h, ap length (feeds_yes n x xs e))) in rw (feeds_yes n x xs e) (omega (arith, low.0), omega (arith, low.1))
      | inr e ↦ let low = feeds_within (suc n) xs (suc i) (omega (arith, h, ap length (feeds_no n x xs e))) in rw (feeds_no n x xs e) (omega (arith, low.0), omega (arith, low.1))
    ]

between_push : (low high last : ℕ) (xs : List ℕ) (i : ℕ) → (i < length xs → Between low high xs i) → low ≤ last → last < high → i < length (xs ++ last ∷ []) → Between low high (xs ++ last ∷ []) i
between_push low high last xs i h from to here =
    elim (cases_lt i (length xs)) [
      | inl k ↦ rw (get_or_append_left xs (last ∷ []) 0 i k) (h k)
      | inr k ↦
          let at : i ≡ length xs = omega (arith, k, here, length-append xs (last ∷ [])) in
          rw (at, get_or-append_seam xs last [] 0) (from, to)
    ]

pub ends_within : (m : ℕ) (xs : List ℕ) (i : ℕ) → i < length (ends_from m xs) → Between (suc m) (suc (length xs + m)) (ends_from m xs) i
ends_within m [] i h = absurd (omega arith)
ends_within m (x ∷ xs) i h =
    let wide : i < length (ends_from m xs) → Between (suc m) (suc (length (x ∷ xs) + m)) (ends_from m xs) i = λ k. let low = ends_within m xs i k in (low.0, omega (arith, low.1)) in
    elim (cases_eq x 10) [
      | inl e ↦ rw (ends_yes m x xs e) (between_push (suc m) (suc (length (x ∷ xs) + m)) (suc (length xs + m)) (ends_from m xs) i wide (omega arith) (omega arith) (omega (arith, h, ap length (ends_yes m x xs e))))
      | inr e ↦ rw (ends_no m x xs e) (wide (omega (arith, h, ap length (ends_no m x xs e))))
    ]

-- where the line after a line feed of the first part starts
pub start_of_feed : (k n : ℕ) (xs : List ℕ) → k < length (feeds_from n xs) → n + start_of (suc k) xs ≡ suc (get_or (feeds_from n xs) k 0)
start_of_feed k n [] h = absurd (omega arith)
start_of_feed zero n (x ∷ xs) h =
    elim (cases_eq x 10) [
      | inl e ↦ rw (eq-eqb x 10 e) (omega arith)
      | inr e ↦ rw (ne_eqb x 10 e) (omega (arith, start_of_feed zero (suc n) xs (omega (arith, h, ap length (feeds_no n x xs e)))))
    ]
start_of_feed (suc k) n (x ∷ xs) h =
    elim (cases_eq x 10) [
      | inl e ↦ rw (eq-eqb x 10 e) (omega (arith, start_of_feed k (suc n) xs (omega (arith, h, ap length (feeds_yes n x xs e)))))
      | inr e ↦ rw (ne_eqb x 10 e) (omega (arith, start_of_feed (suc k) (suc n) xs (omega (arith, h, ap length (feeds_no n x xs e)))))
    ]

-- a line past those of the first part starts in the second
pub start_of_past : (k : ℕ) (xs ys : List ℕ) → count_by is_feed xs < k → start_of k (xs ++ ys) ≡ length xs + start_of (k - count_by is_feed xs) ys
start_of_past k [] ys h =
    let less : k - 0 ≡ k = omega arith in rw (less, zero-add (start_of k ys)) refl
start_of_past zero (x ∷ xs) ys h = absurd (omega arith)
start_of_past (suc k) (x ∷ xs) ys h =
    elim (cases_eq x 10) [
      | inl e ↦
          let step : start_of (suc k) (x ∷ (xs ++ ys)) ≡ 1 + start_of k (xs ++ ys) = rw (eq-eqb x 10 e) refl in
          let less : k - count_by is_feed xs ≡ suc k - count_by is_feed (x ∷ xs) = omega (arith, count_yes x xs e) in
          step ∙ omega (arith, start_of_past k xs ys (omega (arith, h, count_yes x xs e))) ∙ ap (λ j. length (x ∷ xs) + start_of j ys) less
      | inr e ↦
          let step : start_of (suc k) (x ∷ (xs ++ ys)) ≡ 1 + start_of (suc k) (xs ++ ys) = rw (ne_eqb x 10 e) refl in
          let less : suc k - count_by is_feed xs ≡ suc k - count_by is_feed (x ∷ xs) = omega (arith, count_no x xs e) in
          step ∙ omega (arith, start_of_past (suc k) xs ys (omega (arith, h, count_no x xs e))) ∙ ap (λ j. length (x ∷ xs) + start_of j ys) less
    ]

pub start_of_none : (k : ℕ) (xs : List ℕ) → count_by is_feed xs < k → start_of k xs ≡ length xs
start_of_none zero xs h = absurd (omega arith)
start_of_none (suc k) [] h = refl
start_of_none (suc k) (x ∷ xs) h =
    elim (cases_eq x 10) [
      | inl e ↦ rw (eq-eqb x 10 e) (omega (arith, start_of_none k xs (omega (arith, h, count_yes x xs e))))
      | inr e ↦ rw (ne_eqb x 10 e) (omega (arith, start_of_none (suc k) xs (omega (arith, h, count_no x xs e))))
    ]

pub start_of_within : (k : ℕ) (xs : List ℕ) → start_of k xs ≤ length xs
start_of_within zero xs = omega arith
start_of_within (suc k) [] = omega arith
start_of_within (suc k) (x ∷ xs) =
    elim (cases_eq x 10) [
      | inl e ↦ rw (eq-eqb x 10 e) (omega (arith, start_of_within k xs))
      | inr e ↦ rw (ne_eqb x 10 e) (omega (arith, start_of_within (suc k) xs))
    ]

-- where the line after a line feed of the second part starts
pub start_of_end : (k m : ℕ) (xs : List ℕ) → k < length (ends_from m xs) → start_of (suc k) xs + get_or (ends_from m xs) (length (ends_from m xs) - suc k) 0 ≡ suc (length xs + m)
start_of_end k m [] h = absurd (omega arith)
start_of_end zero m (x ∷ xs) h =
    let last : ℕ = suc (length xs + m) in
    let at : length (ends_from m xs ++ last ∷ []) - 1 ≡ length (ends_from m xs) = omega (arith, length-append (ends_from m xs) (last ∷ [])) in
    elim (cases_eq x 10) [
      | inl e ↦ rw (eq-eqb x 10 e, at) (omega (arith, get_or-append_seam (ends_from m xs) last [] 0))
      | inr e ↦ rw (ne_eqb x 10 e) (omega (arith, start_of_end zero m xs (omega (arith, h, ap length (ends_no m x xs e)))))
    ]
start_of_end (suc k) m (x ∷ xs) h =
    let last : ℕ = suc (length xs + m) in
    let at : length (ends_from m xs ++ last ∷ []) - suc (suc k) ≡ length (ends_from m xs) - suc k = omega (arith, length-append (ends_from m xs) (last ∷ [])) in
    elim (cases_eq x 10) [
      | inl e ↦
          let here : k < length (ends_from m xs) = omega (arith, h, ap length (ends_yes m x xs e), length-append (ends_from m xs) (last ∷ [])) in
          rw (eq-eqb x 10 e, at) (omega (arith, get_or_append_left (ends_from m xs) (last ∷ []) 0 (length (ends_from m xs) - suc k) (omega (arith, here)), start_of_end k m xs here))
      | inr e ↦ rw (ne_eqb x 10 e) (omega (arith, start_of_end (suc k) m xs (omega (arith, h, ap length (ends_no m x xs e)))))
    ]

-- two lists that a limit parts
parts_append : (limit : ℕ) (xs ys : List ℕ) → ((i : ℕ) → i < length xs → get_or xs i 0 < limit) → ((i : ℕ) → i < length ys → limit ≤ get_or ys i 0) → Parts limit (xs ++ ys) (length xs)
parts_append limit xs ys low high = (
  omega (arith, length-append xs ys),
  (
    λ i h. rw (get_or_append_left xs ys 0 i h) (low i h),
    λ i h k. rw (get_or-append_right xs ys (length xs) i 0 refl h) (high (i - length xs) (omega (arith, h, k, length-append xs ys))),
  ),
)

-- the line feeds of the first part that stand before the place p
pub feeds_before : (xs : List ℕ) (p : ℕ) → p ≤ length xs → Parts p (feeds_from 0 xs) (line_of xs p)
feeds_before xs p within =
    let whole : take p xs ++ drop p xs ≡ xs = take-append-drop p xs in
    let n = length-take p xs in
    let e : feeds_from 0 (take p xs) ++ feeds_from (0 + length (take p xs)) (drop p xs) ≡ feeds_from 0 xs = sym (feeds_from-append 0 (take p xs) (drop p xs)) ∙ ap (feeds_from 0) whole in
    subst (λ (v : List ℕ × ℕ). Parts p v.0 v.1) (ap₂ (λ (l : List ℕ) (k : ℕ). (l, k)) e (length-feeds_from 0 (take p xs)))
    (parts_append p (feeds_from 0 (take p xs)) (feeds_from (0 + length (take p xs)) (drop p xs)) (λ i h. omega (arith, (feeds_within 0 (take p xs) i h).1, n)) (λ i h. omega (arith, (feeds_within (0 + length (take p xs)) (drop p xs) i h).0, n)))

-- the line feeds of the second part from its place q on
pub feeds_after : (xs : List ℕ) (q : ℕ) → q ≤ length xs → Parts (suc (length xs - q)) (ends_from 0 xs) (count_by is_feed (drop q xs))
feeds_after xs q within =
    let whole : take q xs ++ drop q xs ≡ xs = take-append-drop q xs in
    let n = length-drop q xs in
    let e : ends_from 0 (drop q xs) ++ ends_from (length (drop q xs) + 0) (take q xs) ≡ ends_from 0 xs = sym (ends_from-append 0 (take q xs) (drop q xs)) ∙ ap (ends_from 0) whole in
    subst (λ (v : List ℕ × ℕ). Parts (suc (length xs - q)) v.0 v.1) (ap₂ (λ (l : List ℕ) (k : ℕ). (l, k)) e (length-ends_from 0 (drop q xs)))
    (parts_append (suc (length xs - q)) (ends_from 0 (drop q xs)) (ends_from (length (drop q xs) + 0) (take q xs)) (λ i h. omega (arith, (ends_within 0 (drop q xs) i h).1, n)) (λ i h. omega (arith, (ends_within (length (drop q xs) + 0) (take q xs) i h).0, n)))
