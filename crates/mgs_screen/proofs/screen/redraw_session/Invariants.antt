use Rattle.std.proofs.Common.{◌≡◌, ◌+◌, ◌++◌, ℕ, Bool, List, Option, length, take, drop}
use Rattle.mgs_model.specs.Access.{Directory}
use Rattle.mgs_model.specs.Picture.{Picture}
use Rattle.mgs_model.specs.Draw.{windows_rows}
use Rattle.mgs_cache.specs.Kept.{Kept}
use Rattle.mgs_buffers.specs.Judging.{AreJudged, rules_kept}
use Rattle.mgs_buffers.specs.MarkedBuffer.{MarkedBuffer}
use Rattle.mgs_windows.specs.declared.Window.{Window}
use Rattle.mgs_windows.specs.Panes.{room_of}
use Rattle.mgs_world.specs.Worlds.{buffers_of}
use Rattle.mgs_screen.specs.Canvas.{IsCell, IsDrawnOn}
use Rattle.mgs_screen.specs.Screens.{windows_to}
use Rattle.mgs_screen.specs.TextsDrawn.{AreStandingAround}
use Rattle.mgs_screen.specs.declared.drawn_texts.DrawnText.{DrawnText}
use Rattle.mgs_screen.proofs.Drawings.{cursor_from}
use Rattle.mgs_screen.proofs.screen.redraw_session.Given as goal

-- The windows before the i-th are drawn, the rest has its room, and the cursor is on the screen. The old texts from there on stand, and the
-- new ones above; the rows that were not drawn are as they were.
pub record Drawing (d : Directory) (user : List ℕ) (ks : List MarkedBuffer) (selected i first : ℕ) (ws : List Window) (cursor : ℕ × ℕ) (keeps : List Kept) (olds news : List (Option DrawnText)) (before rows : List Bool) (old new : Picture) : Type 0 where
  pub judged : AreJudged d (rules_kept ks) keeps
  pub drawn : IsDrawnOn before rows old new
  pub count : length new.lines ≡ old.rows
  pub room : first + room_of (drop i ws) + 1 ≡ old.rows
  pub cell : IsCell old.rows old.cols cursor
  pub lines_are : take first new.lines ++ windows_rows i selected old.cols (windows_to d user ks (drop i ws)) ≡ windows_rows 0 selected old.cols (windows_to d user ks ws)
  pub cursor_is : cursor_from i selected old.cols first cursor (windows_to d user ks (drop i ws)) ≡ cursor_from 0 selected old.cols 0 (0, 0) (windows_to d user ks ws)
  pub stands : AreStandingAround first (buffers_of ks) new olds news

abbrev pub invariant-loop-i : goal.invariant-loop-i
invariant-loop-i g l = Drawing l.directory l.session.user l.buffers l.selected l.i l.first l.window-items l.cursor l.judge l.redraw.before.now l.redraw.texts l.initial.redraw.rows l.redraw.rows l.initial.grid l.grid
