-- How many marks of a buffer are in use.
use Rattle.std.specs.Prelude.{ℕ, ◌+◌, List, Option, Some, None, if◌then◌else◌}
use Rattle.mgs_model.specs.Names.{same_name}
use Rattle.mgs_model.specs.World.{World, Session, Window, Place, Shows, Buffer_of}
use Rattle.mgs_world.specs.Sound.{sum_of}

-- a point and a top have a mark each, and so has the session's mark, where there is one
abbrev pub marks_with : Option ℕ → ℕ
marks_with None = 2
marks_with (Some p) = 3

abbrev pub shown_marks : List ℕ → Shows → Option ℕ → ℕ
shown_marks name (Buffer_of n) mark = if same_name name n then marks_with mark else 0
shown_marks name _ mark = 0

abbrev pub window_marks : List ℕ → Window → ℕ
window_marks name x = shown_marks name x.shows x.mark

-- a place has the marks of the window that left it
abbrev pub place_marks : List ℕ → Place → ℕ
place_marks name x = if same_name name x.name then marks_with x.mark else 0

abbrev pub session_marks : List ℕ → Session → ℕ
session_marks name x = sum_of (window_marks name) x.windows + sum_of (place_marks name) x.places

-- the marks of all windows that show a buffer, and of all places in it
abbrev pub marks_of : List ℕ → World → ℕ
marks_of name w = sum_of (session_marks name) w.sessions
