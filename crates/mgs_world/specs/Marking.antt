-- The mark of the window that is selected.
use Rattle.std.specs.Prelude.{◌≡◌, ℕ, List, Option, Some, None}
use Rattle.mgs_model.specs.World as model
use Rattle.mgs_model.specs.Outcome.{Keep_position, Mark_at}
use Rattle.mgs_model.specs.Apply.{change_at, window_adjusted}
use Rattle.mgs_buffers.specs.MarkedBuffer.{MarkedBuffer, MarkAdded, MarkDropped}
use Rattle.mgs_windows.specs.Panes.{marked}
use Rattle.mgs_session.specs.declared.Session.{Session}

-- a window that has no mark gets one, which is in no window yet; one that has a mark keeps it
abbrev pub IsReserved : List ℕ → Option ℕ → ℕ → List MarkedBuffer → List MarkedBuffer → Type 0
IsReserved name None id old new = MarkAdded name 0 id old new
IsReserved name (Some mark) id old new = (id ≡ mark) × (new ≡ old)

-- and it is given up again
abbrev pub IsGivenUp : List ℕ → Option ℕ → ℕ → List MarkedBuffer → List MarkedBuffer → Type 0
IsGivenUp name None id old new = MarkDropped name id old new
IsGivenUp name (Some mark) id old new = new ≡ old

-- the selected window has this mark
abbrev pub session_marked : ℕ → Session → Session
session_marked id x = record x { windows = record x.windows { windows = change_at x.windows.selected (marked id) x.windows.windows } }

-- the mark of the selected window is at p
abbrev pub mark_at_place : ℕ → model.Session → model.Session
mark_at_place p x = record x { windows = change_at x.selected (window_adjusted None Keep_position (Mark_at p) Keep_position None) x.windows }
