-- What a command on a text does in a window that shows none.
use Rattle.std.specs.Prelude.{◌≡◌, ℕ, Option, Some, None, slice_get}
use Rattle.mgs_model.specs.World.{State}
use Rattle.mgs_model.specs.Outcome.{Outcome}
use Rattle.mgs_model.specs.Plans.{row_scrolled}
use Rattle.mgs_model.specs.Acts.{fails, scrolls_rows}
use Rattle.mgs_model.specs.Apply.{change_at}
use Rattle.mgs_model.specs.declared.echo_text.Message.TheVariants.{Says}
use Rattle.mgs_model.specs.declared.echo_text.Notice.TheVariants.{NoBuffer}
use Rattle.mgs_model.specs.declared.session.Command.{Command}
use Rattle.mgs_model.specs.declared.session.Command.TheVariants.{Scroll}
use Rattle.mgs_model.specs.declared.session.Kind.TheVariants.{Other}
use Rattle.mgs_model.specs.declared.session.Scrolling.{Scrolling}
use Rattle.mgs_windows.specs.declared.Window.{Window}
use Rattle.mgs_windows.specs.declared.RowPane.{RowPane}
use Rattle.mgs_windows.specs.declared.RowPane.TheVariants.{NoRows, Buffers, Entries}
use Rattle.mgs_windows.specs.Panes.{rows_in, rows_set}
use Rattle.mgs_session.specs.Sessions.{acted, failed, window_marks_of}
use Rattle.mgs_session.specs.declared.Session.{Session}
use Rattle.mgs_plan.specs.Actions.{height_or_none}

-- only scrolling is done without a text
abbrev pub scroll_in : Command → Option Scrolling
scroll_in (Scroll c) = Some c
scroll_in _ = None

-- rows in a window of so many; None where there are none
abbrev pub pane_scrolled : Scrolling → ℕ → RowPane → Option RowPane
pane_scrolled c height NoRows = None
pane_scrolled c height (Buffers row) = Some (Buffers (row_scrolled c row height))
pane_scrolled c height (Entries name row) = Some (Entries name (row_scrolled c row height))

-- what a command leaves of the rows of a window, if it scrolls any
abbrev pub rows_scrolled : Option Scrolling → Option Window → Option RowPane
rows_scrolled None o = None
rows_scrolled (Some c) o = pane_scrolled c (height_or_none o) (rows_in o)

-- the selected window has these rows
abbrev pub session_rows : RowPane → Session → Session
session_rows rows h = record h { windows = record h.windows { windows = change_at h.windows.selected (rows_set rows) h.windows.windows } }

abbrev pub scrolled_to : Option RowPane → Session → Session
scrolled_to None h = failed (Says NoBuffer) h
scrolled_to (Some rows) h = acted Other (session_rows rows h)

-- that the selected window shows no text, and comes to these rows by some scrolling
pub record CanScroll (h : Session) (rows : RowPane) : Type 0 where
  pub by : Option Scrolling
  pub unshown : window_marks_of h ≡ None
  pub scrolled : rows_scrolled by (slice_get h.windows.windows h.windows.selected) ≡ Some rows

-- OUTCOMES

-- what it comes to that a window comes to rows
abbrev pub rows_outcome : State → RowPane → Outcome
rows_outcome state NoRows = fails state (Says NoBuffer)
rows_outcome state (Buffers row) = scrolls_rows state (Some row)
rows_outcome state (Entries name row) = scrolls_rows state (Some row)

-- or to none
abbrev pub outcome_without : State → Option RowPane → Outcome
outcome_without state None = fails state (Says NoBuffer)
outcome_without state (Some rows) = rows_outcome state rows
