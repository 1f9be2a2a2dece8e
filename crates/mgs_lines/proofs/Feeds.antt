-- Line feeds, the lines between them, and their numbers.
use Rattle.std.proofs.Common.{◌≡◌, ℕ, zero, suc, ◌+◌, ◌-◌, ◌<◌, ◌≤◌, true, false, cond, not, leb, List, [], ◌∷◌, length, take, drop, get_or, refl, sym, ap, ◌∙◌, arith, ◌⊎◌, inl, inr, eq-eqb, zero-add, length-drop, length-take}
use Rattle.std.proofs.lemmas.List.{get_or-drop, take_all, drop_more}
use Rattle.std.specs.Prelude.{slice_range}
use Rattle.std.specs.List.{count_by, position_or_len}
use Rattle.std.proofs.lemmas.List.Sums.{count_by-le-length, sum_by-cons, count_by_more_yes, count_by_more_no, fails_before_first, passes_at_first}
use Rattle.std.proofs.lemmas.Bool.{ne_eqb, cases_eq, cases_lt, eqb-true, le-leb, lt-leb}
use Rattle.mgs_model.specs.Lines.{is_feed, is_within, line_of, line_start, line_end, start_of}
use Rattle.mgs_model.specs.Cells.{glyph}
use Rattle.mgs_model.specs.Walks.{fitting}
use Rattle.mgs_model.proofs.Firsts.{place_most}
use Rattle.mgs_lines.proofs.Walks.{line_start_back, line_start_here, lines_within, line_of-start_of}

-- one character more in front
pub line_of_cons : (c : ℕ) (cs : List ℕ) (p : ℕ) → line_of (c ∷ cs) (suc p) ≡ cond (is_feed c) 1 0 + line_of cs p
line_of_cons c cs p = sum_by-cons (λ y. cond (is_feed y) 1 0) c (take p cs)

-- the next line starts behind a line feed
pub start_of_after : (xs : List ℕ) (q : ℕ) → q < length xs → get_or xs q 0 ≡ 10 → start_of (suc (line_of xs q)) xs ≡ suc q
start_of_after [] q within feed = absurd (omega arith)
start_of_after (c ∷ cs) zero within feed = rw (eq-eqb c 10 feed) refl
start_of_after (c ∷ cs) (suc r) within feed =
    let next : start_of (suc (line_of cs r)) cs ≡ suc r = start_of_after cs r (omega arith) feed in
    elim (cases_eq c 10) [
      | inl e ↦
          let one : line_of (c ∷ cs) (suc r) ≡ suc (line_of cs r) = line_of_cons c cs r ∙ rw (eq-eqb c 10 e) (omega arith) in
          ap (λ k. start_of (suc k) (c ∷ cs)) one ∙ rw (eq-eqb c 10 e) (omega (arith, next))
      | inr n ↦
          let none : line_of (c ∷ cs) (suc r) ≡ line_of cs r = line_of_cons c cs r ∙ rw (ne_eqb c 10 n) (omega arith) in
          ap (λ k. start_of (suc k) (c ∷ cs)) none ∙ rw (ne_eqb c 10 n) (omega (arith, next))
    ]

-- behind the last line there is none
pub start_of_past : (k : ℕ) (xs : List ℕ) → count_by is_feed xs < k → start_of k xs ≡ length xs
start_of_past zero xs past = absurd (omega arith)
start_of_past (suc k) [] past = refl
start_of_past (suc k) (c ∷ cs) past =
    elim (cases_eq c 10) [
      | inl e ↦
          let more : count_by is_feed (c ∷ cs) ≡ 1 + count_by is_feed cs = sum_by-cons (λ y. cond (is_feed y) 1 0) c cs ∙ rw (eq-eqb c 10 e) refl in
          rw (eq-eqb c 10 e) (omega (arith, start_of_past k cs (omega arith)))
      | inr n ↦
          let same : count_by is_feed (c ∷ cs) ≡ count_by is_feed cs = sum_by-cons (λ y. cond (is_feed y) 1 0) c cs ∙ rw (ne_eqb c 10 n) (zero-add _) in
          rw (ne_eqb c 10 n) (omega (arith, start_of_past (suc k) cs (omega arith)))
    ]

-- no more line feeds than characters stand before a place
pub line_of_le : (xs : List ℕ) (p : ℕ) → line_of xs p ≤ p
line_of_le xs p = omega (arith, count_by-le-length is_feed (take p xs), length-take p xs)

-- from a place on over some line feeds
pub start_of_from : (xs : List ℕ) (p n : ℕ) → p ≤ length xs → start_of (line_of xs p + suc n) xs ≡ p + start_of (suc n) (drop p xs)
start_of_from xs zero n within = ap (λ k. start_of k xs) (zero-add (suc n)) ∙ sym (zero-add (start_of (suc n) xs))
start_of_from [] (suc q) n within = absurd (omega arith)
start_of_from (c ∷ cs) (suc q) n within =
    let next : start_of (line_of cs q + suc n) cs ≡ q + start_of (suc n) (drop q cs) = start_of_from cs q n (omega arith) in
    elim (cases_eq c 10) [
      | inl e ↦
          let one : line_of (c ∷ cs) (suc q) ≡ suc (line_of cs q) = line_of_cons c cs q ∙ rw (eq-eqb c 10 e) (omega arith) in
          let more : line_of (c ∷ cs) (suc q) + suc n ≡ suc (line_of cs q + suc n) = omega (arith, one) in
          ap (λ k. start_of k (c ∷ cs)) more ∙ rw (eq-eqb c 10 e) (omega (arith, next))
      | inr other ↦
          let none : line_of (c ∷ cs) (suc q) ≡ line_of cs q = line_of_cons c cs q ∙ rw (ne_eqb c 10 other) (omega arith) in
          let more : line_of (c ∷ cs) (suc q) + suc n ≡ suc (line_of cs q + n) = omega (arith, none) in
          let same : line_of cs q + suc n ≡ suc (line_of cs q + n) = omega arith in
          ap (λ k. start_of k (c ∷ cs)) more ∙ rw (ne_eqb c 10 other) (omega (arith, next, ap (λ k. start_of k cs) same))
    ]

-- numbers past the last line are as good as each other
pub start_of_capped : (j k : ℕ) (xs : List ℕ) → (j ≡ k) ⊎ ((length xs < j) × (length xs < k)) → start_of j xs ≡ start_of k xs
start_of_capped j k xs (inl same) = ap (λ n. start_of n xs) same
start_of_capped j k xs (inr past) =
    start_of_past j xs (omega (arith, past.0, count_by-le-length is_feed xs)) ∙ sym (start_of_past k xs (omega (arith, past.1, count_by-le-length is_feed xs)))

pub line_of_nil : (p : ℕ) → line_of [] p ≡ 0
line_of_nil zero = refl
line_of_nil (suc p) = refl

pub start_of_le : (k : ℕ) (xs : List ℕ) → start_of k xs ≤ length xs
start_of_le zero xs = omega arith
start_of_le (suc k) [] = omega arith
start_of_le (suc k) (c ∷ cs) =
    elim (cases_eq c 10) [
      | inl e ↦ rw (eq-eqb c 10 e) (omega (arith, start_of_le k cs))
      | inr n ↦ rw (ne_eqb c 10 n) (omega (arith, start_of_le (suc k) cs))
    ]

-- a line of a greater number does not start before
pub start_of_mono : (j k : ℕ) (xs : List ℕ) → j ≤ k → start_of j xs ≤ start_of k xs
start_of_mono zero k xs below = omega arith
start_of_mono (suc j) zero xs below = absurd (omega arith)
start_of_mono (suc j) (suc k) [] below = omega arith
start_of_mono (suc j) (suc k) (c ∷ cs) below =
    elim (cases_eq c 10) [
      | inl e ↦ rw (eq-eqb c 10 e) (omega (arith, start_of_mono j k cs (omega arith)))
      | inr n ↦ rw (ne_eqb c 10 n) (omega (arith, start_of_mono (suc j) (suc k) cs below))
    ]

-- from a place to its line's end there is no line feed
pub line_of_end : (xs : List ℕ) (p : ℕ) → line_of xs (line_end xs p) ≡ line_of xs p
line_of_end [] p = line_of_nil (line_end [] p) ∙ sym (line_of_nil p)
line_of_end (c ∷ cs) zero =
    elim (cases_eq c 10) [
      | inl e ↦ rw (eq-eqb c 10 e) refl
      | inr n ↦
          let step : line_end (c ∷ cs) zero ≡ suc (line_end cs zero) = rw (ne_eqb c 10 n) (omega arith) in
          let there : line_of (c ∷ cs) (line_end (c ∷ cs) zero) ≡ line_of (c ∷ cs) (suc (line_end cs zero)) = ap (line_of (c ∷ cs)) step in
          let none : ◌≡◌ {A = ℕ} (cond (is_feed c) 1 0) 0 = rw (ne_eqb c 10 n) refl in
          omega (arith, there, line_of_cons c cs (line_end cs zero), none, line_of_end cs zero)
    ]
line_of_end (c ∷ cs) (suc p) =
    let step : line_end (c ∷ cs) (suc p) ≡ suc (line_end cs p) = omega arith in
    let there : line_of (c ∷ cs) (line_end (c ∷ cs) (suc p)) ≡ line_of (c ∷ cs) (suc (line_end cs p)) = ap (line_of (c ∷ cs)) step in
    omega (arith, there, line_of_cons c cs (line_end cs p), line_of_end cs p, line_of_cons c cs p)

-- a line that does not end with the text ends before a line feed
pub feed_at_end : (xs : List ℕ) (p : ℕ) → line_end xs p < length xs → get_or xs (line_end xs p) 0 ≡ 10
feed_at_end xs p within =
    let n : ℕ = position_or_len is_feed (drop p xs) in
    let inside : n < length (drop p xs) = omega (arith, length-drop p xs) in
    sym (get_or-drop p xs n 0) ∙ eqb-true _ 10 (passes_at_first is_feed (drop p xs) 0 inside)

-- LINES BY THEIR NUMBERS

pub mono : (xs : List ℕ) (p : ℕ) → line_of xs p ≤ line_of xs (length xs)
mono xs p = rw (take_all (length xs) xs (omega arith)) (lines_within xs p)

-- the line of a place starts where the line of its number does
pub start_of_line : (xs : List ℕ) (p : ℕ) → p ≤ length xs → start_of (line_of xs p) xs ≡ line_start xs p
start_of_line xs zero within = refl
start_of_line xs (suc q) within =
    let back : suc q - 1 ≡ q = omega arith in
    let more : suc q ≡ q + 1 = omega arith in
    elim (cases_eq (get_or xs q 0) 10) [
      | inl e ↦
          let feed : is_within (get_or xs (suc q - 1) 0) ≡ false = ap (λ k. is_within (get_or xs k 0)) back ∙ ap not (eq-eqb (get_or xs q 0) 10 e) in
          let one : line_of xs (suc q) ≡ suc (line_of xs q) = ap (line_of xs) more ∙ (count_by_more_yes is_feed xs q 0 (omega arith) (eq-eqb (get_or xs q 0) 10 e) ∙ omega arith) in
          ap (λ k. start_of k xs) one ∙ (start_of_after xs q (omega arith) e ∙ sym (line_start_here xs (suc q) (omega arith) within feed))
      | inr n ↦
          let same : is_within (get_or xs (suc q - 1) 0) ≡ true = ap (λ k. is_within (get_or xs k 0)) back ∙ ap not (ne_eqb (get_or xs q 0) 10 n) in
          let none : line_of xs (suc q) ≡ line_of xs q = ap (line_of xs) more ∙ count_by_more_no is_feed xs q 0 (omega arith) (ne_eqb (get_or xs q 0) 10 n) in
          ap (λ k. start_of k xs) none ∙ (start_of_line xs q (omega arith) ∙ (ap (line_start xs) (sym back) ∙ line_start_back xs (suc q) (omega arith) within same))
    ]

-- a place and its line's start are in one line
pub line_of_start : (xs : List ℕ) (p : ℕ) → p ≤ length xs → line_of xs (line_start xs p) ≡ line_of xs p
line_of_start xs p within = ap (line_of xs) (sym (start_of_line xs p within)) ∙ line_of-start_of (line_of xs p) xs (lines_within xs p)

pub line_start_again : (xs : List ℕ) (p : ℕ) → p ≤ length xs → line_start xs (line_start xs p) ≡ line_start xs p
line_start_again xs p within =
    sym (start_of_line xs (line_start xs p) (omega arith)) ∙ (ap (λ k. start_of k xs) (line_of_start xs p within) ∙ start_of_line xs p within)

-- the line behind a line's end
pub line_of_next : (xs : List ℕ) (p : ℕ) → line_end xs p < length xs → line_of xs (line_end xs p + 1) ≡ line_of xs p + 1
line_of_next xs p within =
    count_by_more_yes is_feed xs (line_end xs p) 0 within (eq-eqb _ 10 (feed_at_end xs p within)) ∙ ap (λ k. k + 1) (line_of_end xs p)

pub start_of_next : (xs : List ℕ) (p : ℕ) → line_end xs p < length xs → start_of (line_of xs (line_end xs p + 1)) xs ≡ line_end xs p + 1
start_of_next xs p within =
    let one : line_of xs (line_end xs p + 1) ≡ suc (line_of xs (line_end xs p)) = line_of_next xs p within ∙ omega (arith, line_of_end xs p) in
    ap (λ k. start_of k xs) one ∙ (start_of_after xs (line_end xs p) within (feed_at_end xs p within) ∙ omega arith)

pub line_start_next : (xs : List ℕ) (p : ℕ) → line_end xs p < length xs → line_start xs (line_end xs p + 1) ≡ line_end xs p + 1
line_start_next xs p within = sym (start_of_line xs (line_end xs p + 1) (omega arith)) ∙ start_of_next xs p within

-- the line above a line's start
pub line_of_above : (xs : List ℕ) (s : ℕ) → 0 < s → s ≤ length xs → line_start xs s ≡ s → line_of xs s ≡ line_of xs (s - 1) + 1
line_of_above xs s some within start =
    let more : s ≡ s - 1 + 1 = omega arith in
    elim (cases_eq (get_or xs (s - 1) 0) 10) [
      | inl e ↦ ap (line_of xs) more ∙ count_by_more_yes is_feed xs (s - 1) 0 (omega arith) (eq-eqb (get_or xs (s - 1) 0) 10 e)
      | inr n ↦ absurd (omega (arith, line_start_back xs s some within (ap not (ne_eqb (get_or xs (s - 1) 0) 10 n))))
    ]

-- WHERE THE NEXT LINE STARTS

next_start : (xs : List ℕ) (p : ℕ) → line_end xs p < length xs → start_of (line_of xs p + 1) xs ≡ line_end xs p + 1
next_start xs p within =
    let one : line_of xs p + 1 ≡ suc (line_of xs (line_end xs p)) = omega (arith, line_of_end xs p) in
    ap (λ k. start_of k xs) one ∙ (start_of_after xs (line_end xs p) within (feed_at_end xs p within) ∙ omega arith)

no_next : (xs : List ℕ) (p : ℕ) → line_end xs p ≡ length xs → start_of (line_of xs p + 1) xs ≡ length xs
no_next xs p last =
    let all : line_of xs (length xs) ≡ count_by is_feed xs = ap (count_by is_feed) (take_all (length xs) xs (omega arith)) in
    start_of_past (line_of xs p + 1) xs (omega (arith, all, line_of_end xs p, ap (line_of xs) last))

-- a line ends before the next one or with the text
ends : (xs : List ℕ) (p : ℕ) → p ≤ length xs → (line_end xs p < length xs) ⊎ (line_end xs p ≡ length xs)
ends xs p within = elim (cases_lt (line_end xs p) (length xs)) [
  | inl e ↦ inl e
  | inr past ↦ inr (omega (arith, past, place_most is_feed (drop p xs), length-drop p xs))
]

pub next_after : (xs : List ℕ) (p n : ℕ) → p < length xs → n ≡ start_of (line_of xs p + 1) xs → p < n
next_after xs p n within is = elim (ends xs p (omega arith)) [
  | inl e ↦ omega (arith, is, next_start xs p e)
  | inr last ↦ omega (arith, is, no_next xs p last)
]

pub next_feed : (xs : List ℕ) (p n : ℕ) → p < length xs → n ≡ start_of (line_of xs p + 1) xs → get_or xs (n - 1) 0 ≡ 10 → n - 1 ≡ line_end xs p
next_feed xs p n within is feed = elim (ends xs p (omega arith)) [
  | inl e ↦ omega (arith, is, next_start xs p e)
  | inr last ↦
      let k : ℕ = n - 1 - p in
      let whole : n ≡ length xs = is ∙ no_next xs p last in
      let none : is_feed (get_or (drop p xs) k 0) ≡ false = fails_before_first is_feed (drop p xs) k 0 (omega (arith, whole, last)) in
      let same : p + k ≡ n - 1 = omega (arith, whole) in
      let there : is_feed (get_or (drop p xs) k 0) ≡ true = ap is_feed (get_or-drop p xs k 0) ∙ (ap (λ j. is_feed (get_or xs j 0)) same ∙ eq-eqb (get_or xs (n - 1) 0) 10 feed) in
      let no : true ≡ false = sym there ∙ none in cc
]

pub next_other : (xs : List ℕ) (p n : ℕ) → p < length xs → n ≡ start_of (line_of xs p + 1) xs → (get_or xs (n - 1) 0 ≡ 10 → ⊥) → n ≡ line_end xs p
next_other xs p n within is other = elim (ends xs p (omega arith)) [
  | inl e ↦
      let same : n - 1 ≡ line_end xs p = omega (arith, is, next_start xs p e) in
      absurd (other (ap (λ j. get_or xs j 0) same ∙ feed_at_end xs p e))
  | inr last ↦ is ∙ no_next xs p last ∙ sym last
]

-- COLUMNS

-- the rest of a line from a character on
pub rest_of_line : (xs : List ℕ) (i : ℕ) → i < length xs → (get_or xs i 0 ≡ 10 → ⊥) → slice_range xs i (line_end xs i) ≡ get_or xs i 0 ∷ slice_range xs (i + 1) (line_end xs (i + 1))
rest_of_line xs i within other =
    let step : position_or_len is_feed (drop i xs) ≡ suc (position_or_len is_feed (drop (i + 1) xs)) = ap (position_or_len is_feed) (drop_more xs i 0 within) ∙ rw (ne_eqb (get_or xs i 0) 10 other) (omega arith) in
    let here : line_end xs i - i ≡ suc (line_end xs (i + 1) - (i + 1)) = omega (arith, step) in
    ap (λ k. take k (drop i xs)) here ∙ ap (take (suc (line_end xs (i + 1) - (i + 1)))) (drop_more xs i 0 within)

pub fitting_more : (xs : List ℕ) (goal column i w : ℕ) → i < length xs → (get_or xs i 0 ≡ 10 → ⊥) → w ≡ length (glyph column (get_or xs i 0)) → column + w ≤ goal
    → i + fitting goal column (slice_range xs i (line_end xs i)) ≡ i + 1 + fitting goal (column + w) (slice_range xs (i + 1) (line_end xs (i + 1)))
fitting_more xs goal column i w within other wide fits =
    let c : ℕ = get_or xs i 0 in
    let rest : List ℕ = slice_range xs (i + 1) (line_end xs (i + 1)) in
    let same : column + length (glyph column c) ≡ column + w = omega (arith, wide) in
    let passes : leb (column + length (glyph column c)) goal ≡ true = le-leb _ goal (omega (arith, wide)) in
    let one : fitting goal column (c ∷ rest) ≡ 1 + fitting goal (column + w) rest = rw passes (ap (λ k. 1 + fitting goal k rest) same) in
    omega (arith, ap (fitting goal column) (rest_of_line xs i within other), one)

pub fitting_over : (xs : List ℕ) (goal column i w : ℕ) → i < length xs → (get_or xs i 0 ≡ 10 → ⊥) → w ≡ length (glyph column (get_or xs i 0)) → goal < column + w
    → fitting goal column (slice_range xs i (line_end xs i)) ≡ 0
fitting_over xs goal column i w within other wide past =
    let c : ℕ = get_or xs i 0 in
    let rest : List ℕ = slice_range xs (i + 1) (line_end xs (i + 1)) in
    let fails : leb (column + length (glyph column c)) goal ≡ false = lt-leb _ goal (omega (arith, wide)) in
    let none : fitting goal column (c ∷ rest) ≡ 0 = rw fails refl in
    ap (fitting goal column) (rest_of_line xs i within other) ∙ none
