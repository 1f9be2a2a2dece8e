-- A line is shown to its end: what the row shows of it from a column on.
use Rattle.std.proofs.Common.{◌≡◌, ℕ, ◌+◌, ◌-◌, ◌≤◌, List, ◌∷◌, length, drop, refl, ap, ◌∙◌, arith, inl, inr, false, length-drop}
use Rattle.std.proofs.lemmas.Bool.{cases_lt, lt-ltb, le-ltb, ne_eqb}
use Rattle.mgs_model.specs.Cells.{cells, AreCells, cells_after}
use Rattle.mgs_model.proofs.WholeCells.{lit_whole, after_whole}
use Rattle.mgs_grid.proofs.Fits.{length-unhalved}
use Rattle.mgs_model.specs.Picture.{IsRow}
use Rattle.mgs_model.specs.Rows.{fitted, shown_row, line_shown, line_row}
use Rattle.mgs_grid.proofs.Printable.{cells_whole}
use Rattle.mgs_grid.proofs.Pictures.{whole_is}

-- from that column on it is the `$` and the end
pub shown_to_end : (cols : ℕ) (xs : List ℕ) → 2 ≤ cols → shown_row cols (length xs - (cols - 1)) xs ≡ fitted 32 cols (line_shown cols xs)
unfolding shown_row line_shown
shown_to_end cols xs wide =
    elim (cases_lt (length xs) cols) [
      | inl short ↦
          let none : length xs - (cols - 1) ≡ 0 = omega arith in
          rw (none, lt-ltb (length xs) cols short) refl
      | inr long ↦
          let next : length xs - (cols - 1) + 1 ≡ length xs - (cols - 2) = omega arith in
          rw (ne_eqb (length xs - (cols - 1)) 0 (λ e. omega arith), le-ltb (length xs) cols long) (ap (λ (k : ℕ). fitted 32 cols (36 ∷ cells_after k xs)) next)
    ]

length-after : (k : ℕ) (xs : List ℕ) → length (cells_after k xs) ≡ length xs - k
length-after k xs = length-unhalved (drop k xs) ∙ length-drop k xs

-- how much is shown
pub length-line_shown : (cols : ℕ) (xs : List ℕ) → 2 ≤ cols → length (line_shown cols xs) ≡ length xs - (length xs - (cols - 1))
unfolding line_shown
length-line_shown cols xs wide =
    elim (cases_lt (length xs) cols) [
      | inl short ↦ rw (lt-ltb (length xs) cols short) (omega arith)
      | inr long ↦ rw (le-ltb (length xs) cols long) (omega (arith, length-after (length xs - (cols - 2)) xs))
    ]

pub line_shown-whole : (cols : ℕ) (xs : List ℕ) → AreCells false xs → AreCells false (line_shown cols xs)
unfolding line_shown
line_shown-whole cols xs all =
    elim (cases_lt (length xs) cols) [
      | inl short ↦ rw (lt-ltb (length xs) cols short) all
      | inr long ↦ rw (le-ltb (length xs) cols long) (lit_whole 36 (cells_after (length xs - (cols - 2)) xs) (omega arith, omega arith) (after_whole xs (length xs - (cols - 2)) all))
    ]

pub line_is : (cols : ℕ) (line : List ℕ) → 2 ≤ cols → IsRow cols (line_row cols line)
line_is cols line wide = whole_is cols (line_shown cols (cells line)) wide (line_shown-whole cols (cells line) (cells_whole 0 line))
