-- One step of a walk along a line.
use Rattle.std.proofs.Common.{◌≡◌, ℕ, zero, suc, ◌+◌, ◌-◌, ◌<◌, ◌≤◌, List, [], ◌∷◌, ◌++◌, length, take, get_or, refl, sym, ap, ◌∙◌, arith, true, false, cond, length-append, append_assoc, add-zero, zero-add, inl, inr, eq-eqb, one-add}
use Rattle.std.specs.Prelude.{slice_range}
use Rattle.std.specs.List.{count_by}
use Rattle.std.proofs.lemmas.List.{append-nil}
use Rattle.std.proofs.lemmas.List.Sums.{suffix_len-take_yes, suffix_len-take_no, sum_by-take-le, sum_by-cons}
use Rattle.std.proofs.lemmas.List.Edits.{between_more}
use Rattle.std.proofs.lemmas.Bool.{ne_eqb, cases_eq}
use Rattle.mgs_model.specs.Cells.{glyph, cells_from, cells}
use Rattle.mgs_model.specs.Lines.{is_within, is_feed, line_of, line_start, start_of}

-- back over a character of the same line
pub line_start_back : (xs : List ℕ) (p : ℕ) → 0 < p → p ≤ length xs → is_within (get_or xs (p - 1) 0) ≡ true → line_start xs (p - 1) ≡ line_start xs p
line_start_back xs p some within same =
    omega (arith, suffix_len-take_yes is_within xs p 0 some within same)

-- a line starts where the text does, and after a line feed
pub line_start_here : (xs : List ℕ) (p : ℕ) → 0 < p → p ≤ length xs → is_within (get_or xs (p - 1) 0) ≡ false → line_start xs p ≡ p
line_start_here xs p some within feed =
    omega (arith, suffix_len-take_no is_within xs p 0 some within feed)

pub cells_from-append : (n : ℕ) (xs ys : List ℕ) → cells_from n (xs ++ ys) ≡ cells_from n xs ++ cells_from (n + length (cells_from n xs)) ys
cells_from-append n [] ys = rw add-zero refl
cells_from-append n (x ∷ xs) ys =
    let m : ℕ = n + length (glyph n x) in
    let e : m + length (cells_from m xs) ≡ n + length (glyph n x ++ cells_from m xs) = omega (arith, length-append (glyph n x) (cells_from m xs)) in
    ap (λ t. glyph n x ++ t) (cells_from-append m xs ys) ∙ ap (λ k. glyph n x ++ (cells_from m xs ++ cells_from k ys)) e ∙ sym (append_assoc (glyph n x) (cells_from m xs) (cells_from (n + length (glyph n x ++ cells_from m xs)) ys))

pub cells_push : (xs : List ℕ) (c : ℕ) → cells (xs ++ c ∷ []) ≡ cells xs ++ glyph (length (cells xs)) c
cells_push xs c = cells_from-append 0 xs (c ∷ []) ∙ rw (zero-add (length (cells_from 0 xs))) (ap (λ t. cells xs ++ t) (append-nil (glyph (length (cells xs)) c)))

pub range_more : (xs : List ℕ) (s i : ℕ) → s ≤ i → i < length xs → slice_range xs s (i + 1) ≡ slice_range xs s i ++ get_or xs i 0 ∷ []
range_more xs s i from within = between_more xs s i 0 from within

-- one more character of a line
pub cells_more : (xs : List ℕ) (s i : ℕ) → s ≤ i → i < length xs → cells (slice_range xs s (i + 1)) ≡ cells (slice_range xs s i) ++ glyph (length (cells (slice_range xs s i))) (get_or xs i 0)
cells_more xs s i from within = ap cells (range_more xs s i from within) ∙ cells_push (slice_range xs s i) (get_or xs i 0)

-- a line that the text has starts where that many line feeds stand before it
pub line_of-start_of : (k : ℕ) (xs : List ℕ) → k ≤ count_by is_feed xs → line_of xs (start_of k xs) ≡ k
line_of-start_of zero xs h = refl
line_of-start_of (suc k) [] h = absurd (omega arith)
line_of-start_of (suc k) (x ∷ xs) h =
    elim (cases_eq x 10) [
      | inl e ↦
          let more : count_by is_feed (x ∷ xs) ≡ 1 + count_by is_feed xs = sum_by-cons (λ y. cond (is_feed y) 1 0) x xs ∙ rw (eq-eqb x 10 e) refl in
          let here : line_of (x ∷ xs) (suc (start_of k xs)) ≡ 1 + line_of xs (start_of k xs) = sum_by-cons (λ y. cond (is_feed y) 1 0) x (take (start_of k xs) xs) ∙ rw (eq-eqb x 10 e) refl in
          rw (eq-eqb x 10 e, one-add) (here ∙ omega (arith, line_of-start_of k xs (omega arith)))
      | inr n ↦
          let more : count_by is_feed (x ∷ xs) ≡ count_by is_feed xs = sum_by-cons (λ y. cond (is_feed y) 1 0) x xs ∙ rw (ne_eqb x 10 n) (zero-add _) in
          let here : line_of (x ∷ xs) (suc (start_of (suc k) xs)) ≡ line_of xs (start_of (suc k) xs) = sum_by-cons (λ y. cond (is_feed y) 1 0) x (take (start_of (suc k) xs) xs) ∙ rw (ne_eqb x 10 n) (zero-add _) in
          rw (ne_eqb x 10 n, one-add) (here ∙ line_of-start_of (suc k) xs (omega arith))
    ]

pub lines_within : (xs : List ℕ) (p : ℕ) → line_of xs p ≤ count_by is_feed xs
lines_within xs p = sum_by-take-le (λ x. cond (is_feed x) 1 0) xs p

-- a few lines above the line of a position
pub back_within : (xs : List ℕ) (p n : ℕ) → (start_of (line_of xs p - n) xs ≡ start_of (line_of xs p - n) xs) × (line_of xs (start_of (line_of xs p - n) xs) ≡ line_of xs p - n)
back_within xs p n = (refl, line_of-start_of (line_of xs p - n) xs (omega (arith, lines_within xs p)))
