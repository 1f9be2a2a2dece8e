-- A grid that is drawn into and the set of the rows that were drawn, and what is drawn there.
use Rattle.std.specs.Prelude.{◌≡◌, ℕ, ◌+◌, ◌≤◌, ◌<◌, ◌^◌, List, Bool, length}
use Rattle.mgs_model.specs.Lines.{line_of, start_of}
use Rattle.mgs_model.specs.Picture.{Picture}
use Rattle.mgs_grid.specs.RowSets.{AreIn, AreSameApart}
use Rattle.mgs_buffers.specs.Found.{Named}
use Rattle.mgs_buffers.specs.MarkedBuffer.{marked_at}
use Rattle.mgs_screen.specs.TabStops.{IsTabStop}
use Rattle.mgs_screen.specs.declared.drawn_texts.DrawnText.{DrawnText}
use Rattle.mgs_screen.specs.declared.drawn_texts.Shown.{Shown}

-- the rows that were drawn are in the set, beside those that were in it; the others are as they were, and so is the size
pub record IsDrawnOn (before after : List Bool) (old new : Picture) : Type 0 where
  pub rows : new.rows ≡ old.rows
  pub cols : new.cols ≡ old.cols
  pub kept : AreIn before after
  pub apart : AreSameApart after old.lines new.lines

-- where a line starts, and its number
pub record IsLineStart (text : List ℕ) (start line : ℕ) : Type 0 where
  pub within : start ≤ length text
  pub number : line_of text start ≡ line
  pub begins : start_of line text ≡ start

-- a text that a picture has room for, and what is known of it
pub record IsPane (text : List ℕ) (d : DrawnText) (p : Picture) : Type 0 where
  pub room : d.first + d.height ≤ p.rows
  pub short : length text < 2 ^ 32
  pub top : IsLineStart text d.shown.start d.shown.above
  pub stop : IsTabStop text d.shown.stop
  pub shift : d.shown.shift < 2 ^ 62

-- a text that is read of a buffer that was found, and the serial of its last edit
pub record IsReadOf (f : Named) (s : Shown) (text : List ℕ) : Type 0 where
  pub text_is : text ≡ (marked_at f.name f.all).buffer.text
  pub serial_is : s.serial ≡ (marked_at f.name f.all).buffer.serial

-- a cell of so many rows and columns
pub record IsCell (rows cols : ℕ) (at : ℕ × ℕ) : Type 0 where
  pub row : at.0 < rows
  pub col : at.1 < cols

-- so many rows from a row on, at least one, and one below them
pub record IsRoom (first height : ℕ) (p : Picture) : Type 0 where
  pub some : 1 ≤ height
  pub rows : first + height < p.rows

-- the last row, and a cell where the point is shown
pub record IsLastRow (row : ℕ) (point : ℕ × ℕ) (p : Picture) : Type 0 where
  pub last : row + 1 ≡ p.rows
  pub cell : IsCell p.rows p.cols point
