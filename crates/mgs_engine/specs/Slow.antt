-- SESSIONS THAT FALL BEHIND: an event changed their screen, and their queue may not have the room for its paint.
use Rattle.std.specs.Prelude.{ℕ, ◌+◌, ◌==◌, nat_lt, nat_eq, Bool, false, not, ◌&&◌, List, map, length, Option, Some}
use Rattle.std.specs.Bool.{beq}
use Rattle.std.specs.List.{filter}
use Rattle.std.specs.Cmp.Lexicographic.{pointwise}
use Rattle.mgs_model.specs.Rows.{Row}
use Rattle.mgs_model.specs.Picture.{Picture}
use Rattle.mgs_model.specs.World.{World, Session, find_session}
use Rattle.mgs_model.specs.Draw.{screen}
use Rattle.mgs_model.specs.declared.limits.TheConstants.{QUEUE_LIMIT}
use Rattle.mgs_paint.specs.Painting.{bound_of}
use Rattle.mgs_engine.specs.Serving.{Serving, pending_of}

-- two pictures are one
abbrev pub same_row : Row → Row → Bool
same_row a b = beq a.reversed b.reversed && pointwise nat_eq a.text b.text

abbrev pub same_size : Picture → Picture → Bool
same_size a b = (a.rows == b.rows) && (a.cols == b.cols)

abbrev pub same_cursor : Picture → Picture → Bool
same_cursor a b = (a.row == b.row) && (a.col == b.col)

abbrev pub same_picture : Picture → Picture → Bool
same_picture a b = same_size a b && (same_cursor a b && pointwise same_row a.lines b.lines)

-- with so many bytes waiting, a paint of this size may go past the limit
abbrev pub is_past : ℕ → ℕ → ℕ → Bool
is_past waiting rows cols = nat_lt QUEUE_LIMIT (waiting + bound_of rows cols)

-- a screen changes, of a terminal for which so many bytes wait
abbrev pub falls_behind : ℕ → Picture → Picture → Bool
falls_behind waiting old new = is_past waiting new.rows new.cols && not (same_picture old new)

-- the session of an id falls behind where an event leads from the served world to this one
abbrev pub is_slow_from : Serving → World → ℕ → Option Session → Option Session → Bool
is_slow_from s w id (Some x) (Some y) = falls_behind (length (pending_of id s)) (screen s.world x) (screen w y)
is_slow_from s w id _ _ = false

abbrev pub is_slow : Serving → World → ℕ → Bool
is_slow s w id = is_slow_from s w id (find_session id s.world.sessions) (find_session id w.sessions)

-- all that fall behind, in the order in which they opened
abbrev pub slow_ids : Serving → World → List ℕ
slow_ids s w = filter (is_slow s w) (map (λ (x : Session). x.id) w.sessions)
