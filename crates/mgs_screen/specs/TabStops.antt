-- Tab stops: places of a line before which so many cells stand that a tab goes to there. From one on, cells can be counted.
use Rattle.std.specs.Prelude.{◌≡◌, ℕ, ◌*◌, ◌%◌, ◌≤◌, List, Option, IfSome, length, drop, slice_range}
use Rattle.std.specs.List.{before_first}
use Rattle.mgs_model.specs.Cells.{cells}
use Rattle.mgs_model.specs.Lines.{is_feed, line_start}
use Rattle.mgs_model.specs.Rows.{shown_row}
use Rattle.mgs_screen.specs.declared.tab_stops.TabStop.{TabStop}

-- in the line that starts here
pub record IsOn (text : List ℕ) (start : ℕ) (stop : TabStop) : Type 0 where
  pub from : start ≤ stop.place
  pub cells : stop.column ≡ length (cells (slice_range text start stop.place))
  pub whole : stop.column % 8 ≡ 0
  pub few : stop.column ≤ 12 * stop.place

-- and no further than a position of the text
pub record IsStopBefore (text : List ℕ) (start p : ℕ) (stop : TabStop) : Type 0 where
  pub on : IsOn text start stop
  pub order : stop.place ≤ p
  pub within : p ≤ length text

-- in its own line
pub record IsTabStop (text : List ℕ) (stop : TabStop) : Type 0 where
  pub within : stop.place ≤ length text
  pub on : IsOn text (line_start text stop.place) stop

-- one that may be known
abbrev pub IsKnown : List ℕ → Option TabStop → Type 0
IsKnown text known = IfSome known (IsTabStop text)

-- what a row shows of the line from a place on, from a column of that on
abbrev pub shown_from : ℕ → ℕ → ℕ → List ℕ → List ℕ
shown_from cols shift place text = shown_row cols shift (cells (before_first is_feed (drop place text)))

-- rows that show the same, each from a column of what stands from a place on
abbrev pub AreShownAlike : List ℕ → ℕ → ℕ → ℕ → ℕ → Type 0
AreShownAlike text shift place other start = (cols : ℕ) → shown_from cols shift place text ≡ shown_from cols other start text
