-- A window comes to show a buffer.
use Rattle.std.specs.Prelude.{ℕ, Bool, false, List, Option, None, Some, find}
use Rattle.mgs_model.specs.Names.{same_name}
use Rattle.std.specs.Option.{option_map}
use Rattle.mgs_model.specs.World.{Place, Window, Session, World, Buffer_of, has_id}
use Rattle.mgs_model.specs.Apply.{change_at, change_first, comer, place_mark, place_point, window_at}
use Rattle.mgs_buffers.specs.MarkedBuffer.{MarkedBuffer}
use Rattle.mgs_windows.specs.Panes.{WindowList, is_place_in, places_after, shows_at}
use Rattle.mgs_windows.specs.declared.WindowMarks.{WindowMarks}
use Rattle.mgs_world.specs.WindowMarks.{WindowMarksAdded}
use Rattle.mgs_world.specs.Worlds.{place_of}
use Rattle.mgs_arrange.specs.Arranged.{left_by, run_ended}

-- what a window shows is the buffer of this name
abbrev pub is_shown : List ℕ → Option WindowMarks → Bool
is_shown name None = false
is_shown name (Some x) = same_name name x.name

-- where a session stands in a buffer to which its selected window comes: where that window stood, or the last that left it
abbrev pub standing : List ℕ → WindowList → Option WindowMarks
standing name w = find (is_place_in name) (places_after (shows_at w.selected w.windows) w.places)

-- the point and the mark there; the start of the text where the session was not there
abbrev pub standing_point : List MarkedBuffer → Option WindowMarks → ℕ
standing_point ks o = place_point (option_map (place_of ks) o)

abbrev pub standing_mark : List MarkedBuffer → Option WindowMarks → Option ℕ
standing_mark ks o = place_mark (option_map (place_of ks) o)

-- a window that comes to the buffer gets marks there, and its top is at the text's start
abbrev pub StandingAdded : List ℕ → Option WindowMarks → WindowMarks → List MarkedBuffer → List MarkedBuffer → Type 0
StandingAdded name stood x ks ls = WindowMarksAdded name (standing_point ks stood) (standing_mark ks stood) 0 x ks ls

-- a window comes to a buffer where one of these places is
abbrev pub coming : List ℕ → List Place → Window → Window
coming name places x = record (comer (Buffer_of name) places) { height = x.height }

-- the selected window leaves its place, and comes to the buffer
abbrev pub window_shows : List ℕ → Session → Session
window_shows name x =
    record x {
      windows = change_at x.selected (coming name (left_by (window_at x.selected x.windows) x.places)) x.windows;
      places = left_by (window_at x.selected x.windows) x.places;
    }

-- the world in which that was done by the session of an id
abbrev pub shown_in : ℕ → List ℕ → Session → World → World
shown_in id name x w = record w { sessions = change_first (has_id id) (λ old. run_ended (window_shows name x)) w.sessions }
