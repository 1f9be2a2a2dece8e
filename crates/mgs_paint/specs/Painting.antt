-- Pictures as screens, and bytes that paint them.
use Rattle.std.specs.Prelude.{◌≡◌, ℕ, ◌+◌, ◌*◌, ◌≤◌, false, List, length, map, flat_map}
use Rattle.mgs_model.specs.Rows.{Row}
use Rattle.mgs_model.specs.Picture.{Picture}
use Rattle.mgs_term.specs.declared.cell.Cell.{Cell}
pub use Rattle.mgs_term.specs.Screen.{cell_of}
use Rattle.mgs_term.specs.Screen.{Screen, IsScreen}
use Rattle.mgs_term.specs.Drawing.{Draws, IsFaithful}

-- the cells of a row
abbrev pub row_cells : Row → List Cell
row_cells r = map (cell_of r.reversed) r.text

-- the cells of a picture, row by row
abbrev pub cells_of : Picture → List Cell
cells_of p = flat_map row_cells p.lines

-- the screen that shows a picture, with reverse and wrap off
abbrev pub shown : Picture → Screen
shown p = record { rows = p.rows; cols = p.cols; cells = cells_of p; row = p.row; col = p.col; reversing = false; wrapping = false }

-- how many bytes a paint may give
abbrev pub bound_of : ℕ → ℕ → ℕ
bound_of rows cols = rows * (16 + 4 * cols) + 16

-- The bytes turn any terminal of the picture's size, whatever it shows and however its cursor and flags stand, into one
-- that shows the picture. On the way each character that is printed is the picture's at its cells.
pub record Paints (p : Picture) (bytes : List ℕ) : Type 0 where
  pub bounded : length bytes ≤ bound_of p.rows p.cols
  pub draws : (s : Screen) → IsScreen s → s.rows ≡ p.rows → s.cols ≡ p.cols → Draws (IsFaithful (cells_of p)) bytes s (shown p)
