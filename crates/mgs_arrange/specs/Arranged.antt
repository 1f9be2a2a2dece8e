-- What each arrangement does to a session of the model that is in no mode.
use Rattle.std.specs.Prelude.{◌≡◌, ℕ, zero, suc, ◌+◌, ◌-◌, ◌/◌, nat_lt, nat_le, ◌==◌, cond, if◌then◌else◌, List, [], ◌∷◌, length, insert, remove, Option, None, Result, Ok, Err}
use Rattle.mgs_model.specs.World.{Place, Window, Session, Shows, Listing}
use Rattle.mgs_model.specs.Plans.{count_of, heir, neighbor}
use Rattle.mgs_model.specs.Apply.{change_at, left_places, window_at}
use Rattle.mgs_windows.specs.Panes.{closer}
use Rattle.mgs_model.specs.declared.echo_text.Message.{Message}
use Rattle.mgs_model.specs.declared.echo_text.Message.TheVariants.{Says}
use Rattle.mgs_model.specs.declared.echo_text.Notice.TheVariants.{OnlyOneWindow, WindowTooSmall, TooManyWindows, ImpossibleChange}
use Rattle.mgs_model.specs.declared.session.Arrangement.{Arrangement}
use Rattle.mgs_model.specs.declared.session.Kind.TheVariants.{Other}
use Rattle.mgs_model.specs.declared.session.Arrangement.TheVariants.{DeleteWindow, DeleteOtherWindows, SplitWindow, NextWindow, PreviousWindow, EnlargeWindow, ShrinkWindow, ListBuffers}
use Rattle.mgs_model.specs.declared.limits.TheConstants.{WINDOW_LIMIT}

-- ROWS

abbrev pub grown : ℕ → Window → Window
grown n x = record x { height = x.height + n }

abbrev pub shrunk : ℕ → Window → Window
shrunk n x = record x { height = x.height - n }

-- the rows of these windows and their mode lines
abbrev pub rows_in : List Window → ℕ
rows_in [] = 0
rows_in (x ∷ xs) = x.height + 1 + rows_in xs

-- PLACES

-- a window that goes leaves its point and mark as the session's place in its buffer
abbrev pub left_by : Window → List Place → List Place
left_by x places = left_places x.shows x.point x.mark places

-- all of these go, from the top down
abbrev pub left_by_all : List Window → List Place → List Place
left_by_all [] places = places
left_by_all (x ∷ xs) places = left_by_all xs (left_by x places)

-- all but the one at k
abbrev pub left_by_others : ℕ → List Window → List Place → List Place
left_by_others k [] places = places
left_by_others zero (x ∷ xs) places = left_by_all xs places
left_by_others (suc k) (x ∷ xs) places = left_by_others k xs (left_by x places)

-- WINDOWS THAT GO

-- the window at k goes, and the one at `to` gets its rows
abbrev pub window_gone : ℕ → ℕ → Session → Session
window_gone k to x =
    record x {
      windows = remove (change_at to (grown ((window_at k x.windows).height + 1)) x.windows) k;
      selected = closer k x.selected;
      places = left_by (window_at k x.windows) x.places;
    }

-- all but the selected one go, and it gets their rows
abbrev pub others_gone : Session → Session
others_gone x =
    record x {
      windows = (record (window_at x.selected x.windows) { height = rows_in x.windows - 1 }) ∷ [];
      selected = 0;
      places = left_by_others x.selected x.windows x.places;
    }

-- A WINDOW THAT COMES

-- a split window gives its lower half, less a mode line, to a window like it
abbrev pub upper_half : Window → Window
upper_half x = record x { height = x.height / 2 }

abbrev pub lower_half : Window → Window
lower_half x = record x { height = x.height - 1 - x.height / 2 }

abbrev pub window_split : Session → Session
window_split x =
    record x { windows = insert (change_at x.selected upper_half x.windows) (x.selected + 1) (lower_half (window_at x.selected x.windows)) }

-- ROWS THAT ARE GIVEN, AND WHAT IS SELECTED

abbrev pub rows_given : ℕ → ℕ → ℕ → Session → Session
rows_given from to n x = record x { windows = change_at from (shrunk n) (change_at to (grown n) x.windows) }

abbrev pub window_selected : ℕ → Session → Session
window_selected k x = record x { selected = k }

-- the one below, or the first for the last
abbrev pub next_index : ℕ → ℕ → ℕ
next_index k count = cond (nat_lt (k + 1) count) (k + 1) 0

-- the one above, or the last for the first
abbrev pub previous_index : ℕ → ℕ → ℕ
previous_index k count = cond (k == 0) (count - 1) (k - 1)

-- ROWS IN PLACE OF A TEXT

-- the list of buffers or an access list, from its first row on
abbrev pub listing_for : Shows → Window → Window
listing_for shows x = record { shows = shows; point = 0; mark = None; top = 0; row = 0; height = x.height }

-- the selected window leaves its place, and comes to it
abbrev pub window_lists : Shows → Session → Session
window_lists shows x =
    record x { windows = change_at x.selected (listing_for shows) x.windows; places = left_by (window_at x.selected x.windows) x.places }

-- ARRANGEMENTS

abbrev pub rows_given_if : ℕ → ℕ → ℕ → Session → Result Session Message
rows_given_if from to n x =
    if nat_le (window_at from x.windows).height n then Err (Says ImpossibleChange) else Ok (rows_given from to n x)

-- the session afterwards, or the failure that is told
abbrev pub rearranged : Arrangement → Option ℕ → Session → Result Session Message
rearranged DeleteWindow n x =
    if nat_lt (length x.windows) 2 then Err (Says OnlyOneWindow) else Ok (window_gone x.selected (heir x.selected) x)
rearranged DeleteOtherWindows n x = Ok (others_gone x)
rearranged SplitWindow n x =
    if nat_lt (window_at x.selected x.windows).height 3 then Err (Says WindowTooSmall)
    else if nat_le WINDOW_LIMIT (length x.windows) then Err (Says TooManyWindows)
    else Ok (window_split x)
rearranged NextWindow n x = Ok (window_selected (next_index x.selected (length x.windows)) x)
rearranged PreviousWindow n x = Ok (window_selected (previous_index x.selected (length x.windows)) x)
rearranged EnlargeWindow n x =
    if nat_lt (length x.windows) 2 then Err (Says OnlyOneWindow)
    else rows_given_if (neighbor x.selected (length x.windows)) x.selected (count_of n) x
rearranged ShrinkWindow n x =
    if nat_lt (length x.windows) 2 then Err (Says OnlyOneWindow)
    else rows_given_if x.selected (neighbor x.selected (length x.windows)) (count_of n) x
rearranged ListBuffers n x = Ok (window_lists Listing x)

-- the session afterwards in either case: a failure is told, and ends what is played
abbrev pub arranged_or_told : Result Session Message → Session → Session
arranged_or_told (Ok y) x = y
arranged_or_told (Err message) x = record x { state = record x.state { echo = message; todo = [] } }

abbrev pub IsLeftOrTold : (Session → Result Session Message) → Session → Session → Type 0
IsLeftOrTold f x y = y ≡ arranged_or_told (f x) x

-- and the run of kills, of lines or of undos that the last command may have been in is over
abbrev pub run_ended : Session → Session
run_ended x = record x { state = record x.state { kind = Other } }
