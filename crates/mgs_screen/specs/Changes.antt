-- What has become of the rows of a text.
use Rattle.std.specs.Prelude.{◌≡◌, ℕ, List, ◌++◌, Option, drop, count_by, length}
use Rattle.mgs_laws.specs.Apart.{Follows, IsEditedOnce}
use Rattle.mgs_model.specs.Lines.{is_feed}
use Rattle.mgs_model.specs.Picture.{Picture}
use Rattle.mgs_model.specs.Rows.{Row, shift_at}
use Rattle.mgs_model.specs.World.{Buffer}
use Rattle.mgs_grid.specs.Panes.{AreSameBut}
use Rattle.mgs_undo.specs.Numbered.{item_of}
use Rattle.mgs_undo.specs.declared.Edit.{Edit}
use Rattle.mgs_screen.specs.TabStops.{IsKnown, IsTabStop}
use Rattle.mgs_screen.specs.declared.change.Change.{Change}
use Rattle.mgs_screen.specs.declared.change.Change.TheVariants.{Nothing, Line, Anything}
use Rattle.mgs_screen.specs.TextsDrawn.{DoesShow, rows_at, showing, shown_rows}
use Rattle.mgs_screen.specs.declared.drawn_texts.DrawnText.{DrawnText}
use Rattle.mgs_screen.specs.declared.drawn_texts.Shown.{Shown}
use Rattle.mgs_screen.specs.declared.tab_stops.TabStop.{TabStop}

-- What is shown of a text began at one position, and begins at another one now. From there on an edit took characters out and put others in,
-- no line feed among them. It was so many lines further down.
pub record IsLineEdited (down from start : ℕ) (old new : List ℕ) : Type 0 where
  pub before : List ℕ
  pub out : List ℕ
  pub put : List ℕ
  pub behind : List ℕ
  pub was : drop from old ≡ before ++ (out ++ behind)
  pub came : drop start new ≡ before ++ (put ++ behind)
  pub lines : down ≡ count_by is_feed before
  pub none_out : count_by is_feed out ≡ 0
  pub none_put : count_by is_feed put ≡ 0

abbrev pub IsChange : Change → ℕ → ℕ → List ℕ → List ℕ → Type 0
IsChange Nothing from start old new = drop from old ≡ drop start new
IsChange (Line down) from start old new = IsLineEdited down from start old new
IsChange Anything from start old new = Unit {0}

-- WHAT A PANE SHOWS OF A TEXT WHEN SOME ROWS ARE DRAWN

-- one row, shown from a column, where the others show it already
abbrev pub CompletesRow : DrawnText → ℕ → ℕ → List ℕ → Picture → Picture → Type 0
CompletesRow d row shift text p q =
    (top from : ℕ) (olds : List Row) → shift ≡ shift_at top from row → rows_at d.first d.height p.lines ≡ olds
    → AreSameBut row olds (shown_rows p.cols d top from text) → q ≡ showing d top from text p

-- the line that was edited: row `row` was shown from a column, and is shown from another one then
abbrev pub CompletesLine : DrawnText → ℕ → ℕ → ℕ → ℕ → List ℕ → Picture → Picture → Type 0
CompletesLine d down row was shift text p q =
    (e : Shown) (old : List ℕ) → DoesShow (record d { shown = e }) row was old p → IsLineEdited down e.start d.shown.start old text → q ≡ showing d row shift text p

-- rows that are shifted
abbrev pub CompletesShifts : DrawnText → ℕ → ℕ → List ℕ → Picture → Picture → Type 0
CompletesShifts d row shift text p q = DoesShow d row shift text p → q ≡ showing d d.shown.row d.shown.shift text p

-- all that a change calls for
abbrev pub CompletesChange : Change → Shown → DrawnText → List ℕ → Picture → Picture → Type 0
CompletesChange change e d text p q =
    (old : List ℕ) → DoesShow (record d { shown = e }) e.row e.shift old p → IsChange change e.start d.shown.start old text → q ≡ showing d d.shown.row d.shown.shift text p

-- WHAT WAS EDITED

-- what an edit made of a text that had so many characters
abbrev pub IsChangeBy : Edit → ℕ → ℕ → ℕ → List ℕ → Change → Type 0
IsChangeBy edit from start size text change =
    (old new : Buffer) (serial : ℕ) (e : IsEditedOnce old new) → e.item ≡ item_of serial edit → new.text ≡ text → length old.text ≡ size → IsChange change from start old.text text

-- what has become of a text that was drawn earlier, whose buffer is this one now
abbrev pub IsChangeSince : Shown → ℕ → Buffer → List ℕ → Change → Type 0
IsChangeSince e start now text change =
    (old : Buffer) → old.serial ≡ e.serial → length old.text ≡ e.size → Follows old now → IsChange change e.start start old.text text

-- and of its tab stop
abbrev pub IsStopSince : Shown → Buffer → Option TabStop → Type 0
IsStopSince e now known = (old : Buffer) → old.serial ≡ e.serial → IsTabStop old.text e.stop → Follows old now → IsKnown now.text known
