-- The windows of a session, and the places where windows were.
use Rattle.std.specs.Prelude.{◌≡◌, ℕ, zero, suc, ◌+◌, ◌-◌, ◌/◌, ◌<◌, ◌≤◌, nat_lt, Bool, List, [], ◌∷◌, Option, Some, None, length, map, find, filter, remove, slice_get, All, cond, not}
use Rattle.std.specs.Option.{option_map, option_and_then}
use Rattle.mgs_model.specs.Names.{same_name}
use Rattle.mgs_model.specs.Apply.{change_at}
use Rattle.mgs_windows.specs.declared.WindowMarks.{WindowMarks}
use Rattle.mgs_windows.specs.declared.Window.{Window}
use Rattle.mgs_windows.specs.declared.RowPane.{RowPane}
use Rattle.mgs_windows.specs.declared.RowPane.TheVariants.{NoRows, Buffers, Entries}

-- capacity is how many places have room without more memory
pub record WindowList : Type 0 where
  pub rows : ℕ
  pub windows : List Window
  pub selected : ℕ
  pub places : List WindowMarks
  pub capacity : ℕ

-- the rows of panes and mode lines
abbrev pub room_of : List Window → ℕ
room_of [] = 0
room_of (x ∷ xs) = x.height + 1 + room_of xs

-- how many windows show a buffer, each of which may leave a place
abbrev pub one_shown : Option WindowMarks → ℕ
one_shown None = 0
one_shown (Some x) = 1

abbrev pub shown_in : List Window → ℕ
shown_in [] = 0
shown_in (x ∷ xs) = one_shown x.shows + shown_in xs

-- the selected one is there, each has a row, together they leave one row, and the places of all have room
pub record IsWindowList (w : WindowList) : Type 0 where
  pub selected : w.selected < length w.windows
  pub some : All (λ (x : Window). 1 ≤ x.height) w.windows
  pub fill : room_of w.windows + 1 ≡ w.rows
  pub room : length w.places + shown_in w.windows ≤ w.capacity

-- one window over all rows, and no place
abbrev pub single_window : ℕ → Option WindowMarks → ℕ → WindowList
single_window rows shows capacity =
    record { rows = rows; windows = record { height = rows - 2; shows = shows; rows = NoRows } ∷ []; selected = 0; places = []; capacity = capacity }

-- HEIGHTS

abbrev pub height_in : Option Window → ℕ
height_in None = 0
height_in (Some x) = x.height

abbrev pub height_at : ℕ → List Window → ℕ
height_at k windows = height_in (slice_get windows k)

abbrev pub grown : ℕ → Window → Window
grown n x = record x { height = x.height + n }

abbrev pub shrunk : ℕ → Window → Window
shrunk n x = record x { height = x.height - n }

abbrev pub given : ℕ → ℕ → ℕ → List Window → List Window
given from to n windows = change_at from (shrunk n) (change_at to (grown n) windows)

-- PLACES: the marks of the last window that left a buffer; the mark of its top has no meaning then

abbrev pub is_place_in : List ℕ → WindowMarks → Bool
is_place_in name p = same_name name p.name

-- the place in a buffer, in place of the one before; last where there was none
abbrev pub with_place : WindowMarks → List WindowMarks → List WindowMarks
with_place p [] = p ∷ []
with_place p (q ∷ qs) = cond (same_name p.name q.name) (p ∷ qs) (q ∷ with_place p qs)

abbrev pub places_after : Option WindowMarks → List WindowMarks → List WindowMarks
places_after None places = places
places_after (Some x) places = with_place x places

-- the place that another takes
abbrev pub left_by : Option WindowMarks → List WindowMarks → Option WindowMarks
left_by None places = None
left_by (Some x) places = find (is_place_in x.name) places

-- A WINDOW GOES

abbrev pub shows_at : ℕ → List Window → Option WindowMarks
shows_at k windows = option_and_then (λ (x : Window). x.shows) (slice_get windows k)

-- the rows beside it
abbrev pub rows_in : Option Window → RowPane
rows_in None = NoRows
rows_in (Some x) = x.rows

abbrev pub rows_at : ℕ → List Window → RowPane
rows_at k windows = rows_in (slice_get windows k)

-- the selected one, once the window at k is gone
abbrev pub closer : ℕ → ℕ → ℕ
closer k selected = cond (nat_lt selected k) selected (selected - 1)

-- its rows go to the heir
abbrev pub windows_without : ℕ → ℕ → List Window → List Window
windows_without k heir windows = remove (change_at heir (grown (height_at k windows + 1)) windows) k

abbrev pub window_removed : ℕ → ℕ → WindowList → WindowList
window_removed k heir w =
    record w {
      windows = windows_without k heir w.windows;
      selected = closer k w.selected;
      places = places_after (shows_at k w.windows) w.places;
    }

-- A WINDOW BECOMES TWO

abbrev pub upper_half : Window → Window
upper_half x = record x { height = x.height / 2 }

abbrev pub lower_half : Option WindowMarks → Window → Window
lower_half shows x = record { height = x.height - 1 - x.height / 2; shows = shows; rows = x.rows }

abbrev pub split_at : ℕ → Option WindowMarks → List Window → List Window
split_at k shows [] = []
split_at zero shows (x ∷ xs) = upper_half x ∷ lower_half shows x ∷ xs
split_at (suc k) shows (x ∷ xs) = x ∷ split_at k shows xs

abbrev pub window_split : Option WindowMarks → WindowList → WindowList
window_split shows w = record w { windows = split_at w.selected shows w.windows }

-- THE MARK

abbrev pub mark_set : ℕ → WindowMarks → WindowMarks
mark_set mark x = record x { mark = Some mark }

-- a window with this mark, where it shows a buffer
abbrev pub marked : ℕ → Window → Window
marked mark x = record x { shows = option_map (mark_set mark) x.shows }

-- A WINDOW COMES TO SHOW A BUFFER

abbrev pub showing : WindowMarks → Window → Window
showing y x = record x { shows = Some y }

-- the selected one, which leaves its place in what it showed
abbrev pub window_shown : WindowMarks → WindowList → WindowList
window_shown y w =
    record w { windows = change_at w.selected (showing y) w.windows; places = places_after (shows_at w.selected w.windows) w.places }

-- A WINDOW COMES TO SHOW ROWS

abbrev pub showing_rows : RowPane → Window → Window
showing_rows rows x = record x { shows = None; rows = rows }

-- the selected one, which leaves its place in what it showed
abbrev pub window_rows_shown : RowPane → WindowList → WindowList
window_rows_shown rows w =
    record w { windows = change_at w.selected (showing_rows rows) w.windows; places = places_after (shows_at w.selected w.windows) w.places }

-- only the rows change
abbrev pub rows_set : RowPane → Window → Window
rows_set rows x = record x { rows = rows }

-- A BUFFER IS GONE: windows that show it or its access list show nothing, and places in it go

abbrev pub shows_without_buffer : List ℕ → Option WindowMarks → Option WindowMarks
shows_without_buffer name None = None
shows_without_buffer name (Some x) = cond (same_name name x.name) None (Some x)

abbrev pub without_entries : List ℕ → RowPane → RowPane
without_entries name NoRows = NoRows
without_entries name (Buffers row) = Buffers row
without_entries name (Entries other row) = cond (same_name name other) NoRows (Entries other row)

-- rows beside a text did not count, and may not when it is gone
abbrev pub rows_without_buffer : List ℕ → Option WindowMarks → RowPane → RowPane
rows_without_buffer name None rows = without_entries name rows
rows_without_buffer name (Some x) rows = NoRows

abbrev pub window_without_buffer : List ℕ → Window → Window
window_without_buffer name x = record x { shows = shows_without_buffer name x.shows; rows = rows_without_buffer name x.shows x.rows }

abbrev pub places_without_buffer : List ℕ → List WindowMarks → List WindowMarks
places_without_buffer name places = filter (λ p. not (is_place_in name p)) places

abbrev pub list_without_buffer : List ℕ → WindowList → WindowList
list_without_buffer name w = record w { windows = map (window_without_buffer name) w.windows; places = places_without_buffer name w.places }
