-- The cells of a line, and cells written into a row one after another.
use Rattle.std.specs.Prelude.{◌≡◌, ℕ, ◌+◌, ◌-◌, nat_lt, nat_le, ◌==◌, Bool, true, ◌&&◌, All, length, List, [], ◌∷◌, ◌++◌, take, drop, slice_set, slice_index_or, slice_range, if◌then◌else◌}
use Rattle.mgs_model.specs.Cells.{right_half, cells}
use Rattle.mgs_model.specs.Lines.{line_end}
use Rattle.mgs_model.specs.Rows.{Row, plain_row}
use Rattle.mgs_model.specs.Picture.{IsPrintable}

-- the cells of the line of a text that starts at a place
abbrev pub line_cells : List ℕ → ℕ → List ℕ
line_cells text start = cells (slice_range text start (line_end text start))

-- a cell of a column, in a row that shows a line from column `shift`; one that is not in sight is passed over
unfoldable pub put : List ℕ → ℕ → ℕ → ℕ → List ℕ
put row shift column x = if nat_lt column shift then row else slice_set row (column - shift) x

-- the cells from a column on
abbrev pub over : List ℕ → ℕ → ℕ → List ℕ → List ℕ
over row shift column [] = row
over row shift column (x ∷ xs) = over (put row shift column x) shift (column + 1) xs

-- a `$` in the last cell, and in the first; where that is one half of a wide character, the other becomes a blank
abbrev pub last_signed : List ℕ → List ℕ
last_signed row =
    let last = length row - 1 in
    slice_set (if slice_index_or row last 32 == right_half then slice_set row (last - 1) 32 else row) last 36

abbrev pub first_signed : List ℕ → List ℕ
first_signed row = slice_set (if slice_index_or row 1 32 == right_half then slice_set row 1 32 else row) 0 36

-- with the signs that more cells stand after and before
unfoldable pub finished : List ℕ → ℕ → ℕ → List ℕ
finished row shift column =
    let cut = if nat_lt (shift + length row) column then last_signed row else row in
    if shift == 0 then cut else first_signed cut

abbrev pub is_plain : ℕ → Bool
is_plain c = nat_le 32 c && nat_le c 126

-- some cells were written from a column on, and what follows them goes into the next one
pub record Wrote (old : List ℕ) (column : ℕ) (xs : List ℕ) (new : List ℕ) (next : ℕ) : Type 0 where
  pub row_is : new ≡ over old 0 column xs
  pub next_is : next ≡ column + length xs
  pub printable : All IsPrintable xs

-- a row that is known to be plain blanks is so
abbrev pub IsBlankIf : Bool → Row → Type 0
IsBlankIf known r = known ≡ true → r ≡ plain_row (length r.text) []

abbrev pub HasWidth : ℕ → Row → Type 0
HasWidth cols r = length r.text ≡ cols

-- rows in place of as many from the first on
abbrev pub rows_put : ℕ → List Row → List Row → List Row
rows_put first new old = take first old ++ new ++ drop (first + length new) old
