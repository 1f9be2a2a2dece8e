-- What texts the rows of a picture were drawn from, and what has become of their buffers since.
use Rattle.std.specs.Prelude.{◌≡◌, ℕ, ◌+◌, ◌<◌, ◌≤◌, ◌==◌, List, [], ◌∷◌, ◌++◌, Bool, Option, Some, None, IfSome, take, drop, length, slice_get, if◌then◌else◌}
use Rattle.mgs_laws.specs.Apart.{Follows}
use Rattle.mgs_model.specs.Picture.{Picture}
use Rattle.mgs_model.specs.Rows.{Row, buffer_mode, mode_row, text_rows, shift_at}
use Rattle.mgs_model.specs.World.{Buffer, find_buffer}
use Rattle.mgs_grid.specs.Panes.{with_rows}
use Rattle.mgs_screen.specs.TabStops.{IsKnown, IsTabStop}
use Rattle.mgs_screen.specs.declared.drawn_texts.DrawnText.{DrawnText}
use Rattle.mgs_screen.specs.declared.drawn_texts.Shown.{Shown}
use Rattle.mgs_screen.specs.declared.drawn_texts.ModeLine.{ModeLine}
use Rattle.mgs_screen.specs.declared.tab_stops.TabStop.{TabStop}

-- so many rows from a row on
abbrev pub rows_at : ℕ → ℕ → List Row → List Row
rows_at first height lines = take height (drop first lines)

-- the rows that a text is drawn in, of which one is shown from another column than 0
abbrev pub shown_rows : ℕ → DrawnText → ℕ → ℕ → List ℕ → List Row
shown_rows cols d row shift text = text_rows cols (shift_at row shift) 0 d.height (drop d.shown.start text)

-- a picture shows them there
abbrev pub DoesShow : DrawnText → ℕ → ℕ → List ℕ → Picture → Type 0
DoesShow d row shift text p = rows_at d.first d.height p.lines ≡ shown_rows p.cols d row shift text

-- a buffer of this name, whose flag may be told or not
abbrev pub told_as : List ℕ → Option Bool → Option (List ℕ × Bool)
told_as name None = None
told_as name (Some modified) = Some (name, modified)

-- what a mode line says of it, and that it is in a row
abbrev pub mode_text : List ℕ → ModeLine → List ℕ
mode_text name m = buffer_mode (told_as name m.heading) (Some (m.line, m.column))

abbrev pub DoesShowMode : ℕ → List ℕ → ModeLine → Picture → Type 0
DoesShowMode row name m p = rows_at row 1 p.lines ≡ mode_row p.cols (mode_text name m) ∷ []

-- a picture with them there
abbrev pub showing : DrawnText → ℕ → ℕ → List ℕ → Picture → Picture
showing d row shift text p = with_rows d.first (shown_rows p.cols d row shift text) p

-- one that was drawn earlier
abbrev pub text_then : List ℕ → ℕ → ℕ → Shown → DrawnText
text_then name first height e = record { name = name; first = first; height = height; shown = e }

-- the rows are those of a text, and the buffer of that name follows the one that it was read of
pub record Stands (bs : List Buffer) (p : Picture) (d : DrawnText) : Type 0 where
  pub drawn : Buffer
  pub serial : drawn.serial ≡ d.shown.serial
  pub size : length drawn.text ≡ d.shown.size
  pub start : d.shown.start ≤ length drawn.text
  pub fits : d.first + d.height < length p.lines
  pub rows : DoesShow d d.shown.row d.shown.shift drawn.text p
  pub stop : IsTabStop drawn.text d.shown.stop
  pub mode : DoesShowMode (d.first + d.height) d.name d.shown.mode p
  pub now : Buffer
  pub found : find_buffer d.name bs ≡ Some now
  pub follows : Follows drawn now

-- a text that may have been drawn earlier
abbrev pub MayStand : List Buffer → Picture → List ℕ → ℕ → ℕ → Option Shown → Type 0
MayStand bs p name first height earlier = IfSome earlier (λ e. Stands bs p (text_then name first height e))

-- a tab stop that its buffer's text has now
abbrev pub IsStopOf : List Buffer → List ℕ → Option Shown → List ℕ → Option TabStop → Type 0
IsStopOf bs name earlier text known = (p : Picture) (first height : ℕ) → MayStand bs p name first height earlier → IsKnown text known

-- there is a place for each window, from the top; where one shows a text that may be read, it holds this
pub record AreStanding (bs : List Buffer) (p : Picture) (ds : List (Option DrawnText)) : Type 0 where
  pub each : (i : ℕ) (d : DrawnText) → slice_get ds i ≡ Some (Some d) → Stands bs p d

-- WHILE A SCREEN IS DRAWN

-- all texts stand, and above a row
pub record AreStandingAbove (k : ℕ) (bs : List Buffer) (p : Picture) (ds : List (Option DrawnText)) : Type 0 where
  pub each : (i : ℕ) (d : DrawnText) → slice_get ds i ≡ Some (Some d) → Stands bs p d × (d.first + d.height < k)

-- the texts from a row on stand
pub record AreStandingFrom (k : ℕ) (bs : List Buffer) (p : Picture) (ds : List (Option DrawnText)) : Type 0 where
  pub each : (i : ℕ) (d : DrawnText) → slice_get ds i ≡ Some (Some d) → k ≤ d.first → Stands bs p d

-- the texts of the screen before from a row on, and the new ones above it
pub record AreStandingAround (k : ℕ) (bs : List Buffer) (p : Picture) (olds news : List (Option DrawnText)) : Type 0 where
  pub from : AreStandingFrom k bs p olds
  pub above : AreStandingAbove k bs p news

-- a place more, of which there are eight at most
abbrev pub pushed : Option DrawnText → List (Option DrawnText) → List (Option DrawnText)
pushed o ds = if length ds == 8 then ds else ds ++ o ∷ []
