-- What a terminal shows.
use Rattle.std.specs.Prelude.{◌≡◌, ℕ, ◌+◌, ◌-◌, ◌*◌, ◌<◌, ◌==◌, ◌&&◌, nat_lt, Bool, true, false, List, [], ◌∷◌, length, map, replicate, slice_index_or, slice_set, if◌then◌else◌}
use Rattle.mgs_model.specs.Cells.{right_half, own_cells}
use Rattle.mgs_model.specs.Picture.{IsSize}
use Rattle.mgs_term.specs.declared.cell.Cell.{Cell}

-- rows and columns; the cells row by row; the cursor's row and column, from 0;
-- whether what is printed is in reverse; whether the cursor would wrap at the end of a row
pub record Screen : Type 0 where
  pub rows : ℕ
  pub cols : ℕ
  pub cells : List Cell
  pub row : ℕ
  pub col : ℕ
  pub reversing : Bool
  pub wrapping : Bool

-- a screen has a cell for each place, and its cursor is on one
pub record IsScreen (s : Screen) : Type 0 where
  pub size : IsSize s.rows s.cols
  pub covered : length s.cells ≡ s.rows * s.cols
  pub row_in : s.row < s.rows
  pub col_in : s.col < s.cols

abbrev pub blank_cell : Cell
blank_cell = record { character = 32; reversed = false }

-- where the cursor's cell stands among the cells
abbrev pub cursor_cell : Screen → ℕ
cursor_cell s = s.row * s.cols + s.col

-- blanks, the cursor in the first cell, reverse off and wrap on
abbrev pub blank_screen : ℕ → ℕ → Screen
blank_screen rows cols = record { rows = rows; cols = cols; cells = replicate (rows * cols) blank_cell; row = 0; col = 0; reversing = false; wrapping = true }

-- WIDE CHARACTERS

abbrev pub cell_of : Bool → ℕ → Cell
cell_of reversed c = record { character = c; reversed = reversed }

-- the cells that a character fills
abbrev pub own_shown : Bool → ℕ → List Cell
own_shown reversed c = map (cell_of reversed) (own_cells c)

abbrev pub is_half : Cell → Bool
is_half c = c.character == right_half

-- a cell becomes a blank, and keeps its reverse
abbrev pub blanked : ℕ → List Cell → List Cell
blanked i cells = slice_set cells i (cell_of (slice_index_or cells i blank_cell).reversed 32)

-- A row parted before a column, of which the first cell is the given one: where a wide character stands across, each of its
-- halves becomes a blank.
unfoldable pub parted : ℕ → ℕ → ℕ → List Cell → List Cell
parted start cols col cells =
    if nat_lt 0 col && (nat_lt col cols && is_half (slice_index_or cells (start + col) blank_cell)) then blanked (start + col - 1) (blanked (start + col) cells)
    else cells

-- cells in place of as many, from one on
abbrev pub written : ℕ → List Cell → List Cell → List Cell
written i [] cells = cells
written i (x ∷ xs) cells = written (i + 1) xs (slice_set cells i x)
