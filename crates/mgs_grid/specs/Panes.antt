-- Rows of a text on a screen.
use Rattle.std.specs.Prelude.{◌≡◌, ℕ, ◌+◌, ◌<◌, ◌≤◌, List, drop, slice_set}
use Rattle.mgs_model.specs.Lines.{start_of}
use Rattle.mgs_model.specs.Rows.{Row, text_rows, shift_at}
use Rattle.mgs_grid.specs.Cells.{rows_put}
use Rattle.mgs_model.specs.Picture.{Picture}

-- a picture with rows in place of as many from the first on
abbrev pub with_rows : ℕ → List Row → Picture → Picture
with_rows first rows p = record p { lines = rows_put first rows p.lines }

-- rows that are the same but for the i-th, whatever that is
abbrev pub AreSameBut : ℕ → List Row → List Row → Type 0
AreSameBut i olds news = (r : Row) → slice_set olds i r ≡ slice_set news i r

-- a picture's rows, of which those from the first on show a text; one of these is shown from another column than 0
abbrev pub text_put : ℕ → ℕ → ℕ → ℕ → List ℕ → Picture → List Row
text_put first height row shift rest p = rows_put first (text_rows p.cols (shift_at row shift) 0 height rest) p.lines

-- the rows of a picture that show a text: `height` of them from row `first` on show it from the line that starts at `top` on, and row `row`
-- of these from column `shift`
pub record TextPane : Type 0 where
  pub first : ℕ
  pub height : ℕ
  pub top : ℕ
  pub row : ℕ
  pub shift : ℕ

-- A text's rows stand already but for the i-th of them. That one is row `at` of the picture, and shows the line that starts at `start`
-- from column `from`.
pub record IsDrawnBut (i at start from : ℕ) (pane : TextPane) (text : List ℕ) (p : Picture) : Type 0 where
  pub place : at ≡ pane.first + i
  pub within : i < pane.height
  pub fits : pane.first + pane.height ≤ p.rows
  pub line : start ≡ pane.top + start_of i (drop pane.top text)
  pub column : from ≡ shift_at pane.row pane.shift i
  pub others : AreSameBut at p.lines (text_put pane.first pane.height pane.row pane.shift (drop pane.top text) p)

-- the picture's row `at` gets the line that starts at `start`: where a text's rows stood but for that one, all stand
abbrev pub CompletesPanes : ℕ → ℕ → ℕ → List ℕ → Picture → Picture → Type 0
CompletesPanes at start shift text old new =
    (i : ℕ) (pane : TextPane) → IsDrawnBut i at start shift pane text old
    → new ≡ record old { lines = text_put pane.first pane.height pane.row pane.shift (drop pane.top text) old }
