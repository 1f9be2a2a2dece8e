-- What is drawn is printable.
use Rattle.std.proofs.Common.{ℕ, zero, suc, ◌+◌, ◌-◌, ◌%◌, ◌≤◌, Bool, true, false, cond, List, [], ◌∷◌, ◌++◌, length, map, replicate, arith, inl, inr, All, leb}
use Rattle.std.specs.Int.Digits.{digits_of}
use Rattle.std.specs.List.{before_first, after_first}
use Rattle.std.specs.Char.{digit_char}
use Rattle.std.proofs.lemmas.Bool.{cases_lt, cases_eq, ne_eqb}
use Rattle.std.proofs.lemmas.Int.Digits.{all_below_base_digits_of}
use Rattle.std.proofs.lemmas.List.Elements.{All-nil, All-cons, All-append}
use Rattle.mgs_model.specs.Cells.{glyph, escape, cells_from, cells, own_columns, AreCells, cells_before, cells_after}
use Rattle.mgs_model.proofs.WholeCells.{lit_whole, printable_whole, replicate_whole, own_whole, whole_append, before_whole, after_whole}
use Rattle.mgs_model.specs.Lines.{is_feed}
use Rattle.mgs_lines.proofs.Glyphs.{glyph-tab, glyph-control, glyph-plain, glyph-delete, glyph-escape, glyph-own}
use Rattle.mgs_model.specs.Rows.{fitted, shown_row, text_rows}
use Rattle.mgs_model.specs.Picture.{IsPrintable, IsRow}
use Rattle.mgs_grid.proofs.Plain.{digits_printable}
use Rattle.mgs_grid.proofs.Fits.{length-shown}

lit : (c : ℕ) → 32 ≤ c → c ≤ 126 → (xs : List ℕ) → All IsPrintable xs → All IsPrintable (c ∷ xs)
lit c a b xs h = All-cons IsPrintable c xs (a, b) h

escape_printable : (c : ℕ) → All IsPrintable (escape c)
escape_printable c =
    let ds : List ℕ = digits_of 16 c in
    let hex : All IsPrintable (map digit_char ds) = digits_printable 16 (omega arith) ds (all_below_base_digits_of 16 c (omega arith)) in
    let tail : List ℕ = map digit_char ds ++ 125 ∷ [] in
    let end : All IsPrintable tail = All-append IsPrintable (map digit_char ds) (125 ∷ []) hex (lit 125 (omega arith) (omega arith) [] (All-nil IsPrintable)) in
    lit 92 (omega arith) (omega arith) (117 ∷ 123 ∷ tail) (lit 117 (omega arith) (omega arith) (123 ∷ tail) (lit 123 (omega arith) (omega arith) tail end))

pub glyph_whole : (n c : ℕ) → AreCells false (glyph n c)
glyph_whole n c =
    elim (cases_eq c 9) [
      | inl e ↦ rw (glyph-tab n c e) (replicate_whole (8 - n % 8) 32 (omega arith, omega arith))
      | inr ne ↦ elim (cases_lt c 32) [
        | inl l ↦ rw (glyph-control n c ne l) (lit_whole 94 ((c + 64) ∷ []) (omega arith, omega arith) (lit_whole (c + 64) [] (omega arith, omega arith) tt))
        | inr m ↦ elim (cases_lt c 127) [
          | inl p ↦ rw (glyph-plain n c m p) (lit_whole c [] (m, omega arith) tt)
          | inr q ↦ elim (cases_eq c 127) [
            | inl d ↦ rw (glyph-delete n c d) (lit_whole 94 (63 ∷ []) (omega arith, omega arith) (lit_whole 63 [] (omega arith, omega arith) tt))
            | inr nd ↦ elim (cases_eq (own_columns c) 0) [
              | inl none ↦ rw (glyph-escape n c q nd none) (printable_whole (escape c) (escape_printable c))
              | inr own ↦ rw (glyph-own n c q nd own) (own_whole c (omega (arith, own)))
            ]
          ]
        ]
      ]
    ]

pub cells_whole : (n : ℕ) (xs : List ℕ) → AreCells false (cells_from n xs)
cells_whole n [] = tt
cells_whole n (x ∷ xs) = whole_append false (glyph n x) (cells_from (n + length (glyph n x)) xs) (glyph_whole n x) (cells_whole (n + length (glyph n x)) xs)

either : (b : Bool) (xs ys : List ℕ) → AreCells false xs → AreCells false ys → AreCells false (cond b xs ys)
either true xs ys h k = h
either false xs ys h k = k

sign : AreCells false (36 ∷ [])
sign = lit_whole 36 [] (omega arith, omega arith) tt

pub fitted_whole : (f cols : ℕ) (xs : List ℕ) → IsPrintable f → AreCells false xs → AreCells false (fitted f cols xs)
unfolding fitted
fitted_whole f cols xs h all =
    either (leb (length xs) cols) (xs ++ replicate (cols - length xs) f) (cells_before (cols - 1) xs ++ 36 ∷ [])
    (whole_append false xs (replicate (cols - length xs) f) all (replicate_whole (cols - length xs) f h))
    (whole_append false (cells_before (cols - 1) xs) (36 ∷ []) (before_whole xs (cols - 1) all) sign)

pub shown_whole : (cols s : ℕ) (xs : List ℕ) → AreCells false xs → AreCells false (shown_row cols s xs)
unfolding shown_row
shown_whole cols zero xs all = fitted_whole 32 cols xs (omega arith, omega arith) all
shown_whole cols (suc s) xs all = rw (ne_eqb (suc s) 0 (λ e. omega arith)) (fitted_whole 32 cols (36 ∷ cells_after (suc s + 1) xs) (omega arith, omega arith) (lit_whole 36 (cells_after (suc s + 1) xs) (omega arith, omega arith) (after_whole xs (suc s + 1) all)))

pub rows_are : (cols : ℕ) (shift : ℕ → ℕ) (i h : ℕ) (rest : List ℕ) → 2 ≤ cols → All (IsRow cols) (text_rows cols shift i h rest)
rows_are cols shift i zero rest some = All-nil (IsRow cols)
rows_are cols shift i (suc h) rest some =
    let line : List ℕ = cells (before_first is_feed rest) in
    All-cons (IsRow cols) (record { text = shown_row cols (shift i) line; reversed = false }) (text_rows cols shift (i + 1) h (after_first is_feed rest)) (record { width = length-shown cols (shift i) line some; whole = shown_whole cols (shift i) line (cells_whole 0 (before_first is_feed rest)) }) (rows_are cols shift (i + 1) h (after_first is_feed rest) some)
