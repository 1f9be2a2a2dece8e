-- What a row shows of a line stands in as many of its characters as the row shows columns, and one more.
use Rattle.std.proofs.Common.{◌≡◌, ℕ, zero, suc, ◌+◌, ◌-◌, ◌%◌, ◌<◌, ◌≤◌, List, [], ◌∷◌, ◌++◌, length, take, drop, refl, sym, ap, ◌∙◌, arith, inl, inr, length-append, length-take, length-drop, take-append-drop}
use Rattle.std.specs.Prelude.{slice_range}
use Rattle.std.proofs.lemmas.List.{length-replicate, take-take, take-append-le, drop-append-le}
use Rattle.std.proofs.lemmas.Bool.{cases_lt, cases_eq, lt-leb, ne_eqb}
use Rattle.mgs_model.specs.Cells.{glyph, cells, cells_from, own_columns, starts_half, unhalved, cells_before, cells_after}
use Rattle.mgs_grid.proofs.Fits.{length-unhalved}
use Rattle.mgs_model.specs.Rows.{fitted, shown_row}
use Rattle.mgs_lines.proofs.Walks.{cells_from-append}
use Rattle.mgs_lines.proofs.Glyphs.{glyph-tab, glyph-control, glyph-plain, glyph-delete, glyph-escape, glyph-own, length-own}

-- each character has a cell
glyph_some : (n c : ℕ) → 1 ≤ length (glyph n c)
glyph_some n c =
    elim (cases_eq c 9) [
      | inl tab ↦ omega (arith, ap length (glyph-tab n c tab), length-replicate {A = ℕ} (8 - n % 8) 32)
      | inr other ↦ elim (cases_lt c 32) [
        | inl low ↦ omega (arith, ap length (glyph-control n c other low))
        | inr high ↦ elim (cases_lt c 127) [
          | inl plain ↦ omega (arith, ap length (glyph-plain n c high plain))
          | inr far ↦ elim (cases_eq c 127) [
            | inl delete ↦ omega (arith, ap length (glyph-delete n c delete))
            | inr past ↦ elim (cases_eq (own_columns c) 0) [
              | inl none ↦ omega (arith, ap length (glyph-escape n c far past none))
              | inr own ↦ omega (arith, ap length (glyph-own n c far past own), length-own c own, own)
            ]
          ]
        ]
      ]
    ]

cells_some : (n : ℕ) (xs : List ℕ) → length xs ≤ length (cells_from n xs)
cells_some n [] = omega arith
cells_some n (x ∷ xs) =
    omega (arith, glyph_some n x, cells_some (n + length (glyph n x)) xs, length-append (glyph n x) (cells_from (n + length (glyph n x)) xs))

head_same : (zs ys : List ℕ) → 1 ≤ length zs → starts_half (zs ++ ys) ≡ starts_half zs
head_same [] ys some = absurd (omega arith)
head_same (z ∷ zs) ys some = refl

unhalved_same : (zs ys : List ℕ) → 1 ≤ length zs → unhalved (zs ++ ys) ≡ unhalved zs ++ ys
unhalved_same [] ys some = absurd (omega arith)
unhalved_same (z ∷ zs) ys some = refl

before_same : (k : ℕ) (xs ys : List ℕ) → k < length xs → cells_before k (xs ++ ys) ≡ cells_before k xs
before_same k xs ys l =
    let head : starts_half (drop k (xs ++ ys)) ≡ starts_half (drop k xs) = ap starts_half (drop-append-le k xs ys (omega arith)) ∙ head_same (drop k xs) ys (omega (arith, length-drop k xs)) in
    rw (head, take-append-le k xs ys (omega arith), take-append-le (k - 1) xs ys (omega arith)) refl

-- what follows a cut is not seen
fitted_cut : (f cols : ℕ) (xs ys : List ℕ) → cols < length xs → fitted f cols (xs ++ ys) ≡ fitted f cols xs
unfolding fitted
fitted_cut f cols xs ys long =
    let more : cols < length (xs ++ ys) = omega (arith, length-append xs ys) in
    rw (lt-leb (length (xs ++ ys)) cols more, lt-leb (length xs) cols long) (ap (λ (k : List ℕ). k ++ 36 ∷ []) (before_same (cols - 1) xs ys (omega arith)))

shown_cut : (cols s : ℕ) (xs ys : List ℕ) → 1 ≤ cols → s + cols < length xs → shown_row cols s (xs ++ ys) ≡ shown_row cols s xs
unfolding shown_row
shown_cut cols zero xs ys some long = fitted_cut 32 cols xs ys (omega arith)
shown_cut cols (suc s) xs ys some long =
    let n : ℕ = suc s + 1 in
    let left : length (drop n xs) ≡ length xs - n = length-drop n xs in
    let rest : cells_after n (xs ++ ys) ≡ cells_after n xs ++ ys = ap unhalved (drop-append-le n xs ys (omega arith)) ∙ unhalved_same (drop n xs) ys (omega (arith, left)) in
    let same : fitted 32 cols (36 ∷ cells_after n (xs ++ ys)) ≡ fitted 32 cols (36 ∷ cells_after n xs) =
    ap (λ (k : List ℕ). fitted 32 cols (36 ∷ k)) rest ∙ fitted_cut 32 cols (36 ∷ cells_after n xs) ys (omega (arith, length-unhalved (drop n xs), left)) in
    rw (ne_eqb (suc s) 0 (λ e. omega arith)) same

line_cut : (cols s n : ℕ) (xs : List ℕ) → 1 ≤ cols → s + cols < n → n ≤ length xs → shown_row cols s (cells (take n xs)) ≡ shown_row cols s (cells xs)
line_cut cols s n xs broad long within =
    let front : List ℕ = take n xs in
    let whole : cells xs ≡ cells front ++ cells_from (0 + length (cells front)) (drop n xs) =
    ap cells (sym (take-append-drop n xs)) ∙ cells_from-append 0 front (drop n xs) in
    let some : s + cols < length (cells front) = omega (arith, cells_some 0 front, length-take n xs) in
    sym (ap (shown_row cols s) whole ∙ shown_cut cols s (cells front) (cells_from (0 + length (cells front)) (drop n xs)) broad some)

-- a line that is read no further than it is shown
pub range_cut : (cols s start stop end : ℕ) (xs : List ℕ) → 1 ≤ cols → stop ≤ end → end ≤ length xs → (stop < end → start + (s + cols) < stop) → start ≤ stop
    → shown_row cols s (cells (slice_range xs start stop)) ≡ shown_row cols s (cells (slice_range xs start end))
range_cut cols s start stop end xs wide order within far from =
    elim (cases_lt stop end) [
      | inl before ↦
          let line : List ℕ = slice_range xs start end in
          let n : ℕ = stop - start in
          let count : length line ≡ end - start = omega (arith, length-take (end - start) (drop start xs), length-drop start xs) in
          let front : take n line ≡ slice_range xs start stop = take-take n (end - start) (drop start xs) (omega arith) in
          let long : s + cols < n = omega (arith, far before) in
          ap (λ (k : List ℕ). shown_row cols s (cells k)) (sym front) ∙ line_cut cols s n line wide long (omega (arith, count))
      | inr same ↦
          let e : stop ≡ end = omega arith in
          ap (λ (k : ℕ). shown_row cols s (cells (slice_range xs start k))) e
    ]
