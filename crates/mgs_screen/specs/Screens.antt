-- What a screen shows of the kept buffers.
use Rattle.std.specs.Prelude.{◌≡◌, ℕ, ◌+◌, ◌-◌, min, Bool, true, false, List, [], ◌∷◌, ◌++◌, map, Option, Some, None, if◌then◌else◌, codes}
use Rattle.mgs_model.specs.Access.{Directory}
use Rattle.mgs_model.specs.World.{Buffer, State, may}
use Rattle.mgs_model.specs.Lines.{column, line_of, line_start}
use Rattle.mgs_model.specs.Picture.{Picture}
use Rattle.mgs_model.specs.Prompts.{line_in_mode, prompt_line, search_text}
use Rattle.mgs_model.specs.declared.echo_text.Message.{Message}
use Rattle.mgs_model.specs.declared.echo_text.Message.TheVariants.{Says}
use Rattle.mgs_model.specs.declared.echo_text.Notice.TheVariants.{Silent}
use Rattle.mgs_model.specs.declared.session.Mode.{Mode}
use Rattle.mgs_model.specs.declared.session.Mode.TheVariants.{Plain}
use Rattle.mgs_model.specs.Rows.{Row, mode_row, echo_row, line_row, line_end_column, shift_for, buffer_mode, unless_told}
use Rattle.mgs_grid.specs.Cells.{rows_put}
use Rattle.mgs_model.specs.View.{buffer_seen, window_seen, reads}
use Rattle.mgs_model.specs.Seen.{WindowPane, window_pane}
use Rattle.mgs_model.specs.Draw.{read_rows, screen, place_of, point_row, cursor_in_mode, window_cursor, window_rows}
use Rattle.mgs_model.specs.declared.right.Right.TheVariants.{ReadAttributes, ReadData}
use Rattle.mgs_mini.specs.Typing.{PromptInput}
use Rattle.mgs_marks.specs.Marks.{position_in}
use Rattle.mgs_buffers.specs.Found.{Named}
use Rattle.mgs_buffers.specs.MarkedBuffer.{MarkedBuffer, IsMark, marked_at}
use Rattle.mgs_windows.specs.declared.WindowMarks.{WindowMarks}
use Rattle.mgs_windows.specs.declared.Window.{Window}
use Rattle.mgs_session.specs.declared.search.Aim.{Aim}
use Rattle.mgs_session.specs.declared.search.Aim.TheVariants.{Find, Replace}
use Rattle.mgs_session.specs.declared.Session.{Session}
use Rattle.mgs_world.specs.Worlds.{buffers_of, session_of, window_of, world_of}
use Rattle.mgs_screen.specs.TextsDrawn.{told_as}
use Rattle.mgs_screen.specs.declared.screen.Place.{Place}

-- the column from which the point's line is shown
abbrev pub screen_shift : Bool → ℕ → ℕ → ℕ
screen_shift true cols column = shift_for cols column
screen_shift false cols column = 0

-- windows as their user sees them
abbrev pub window_to : Directory → List ℕ → List MarkedBuffer → Window → WindowPane
window_to directory user ks x =
    window_pane (map (buffer_seen directory user) (buffers_of ks)) (window_seen (reads directory (buffers_of ks) user) (window_of ks x))

abbrev pub windows_to : Directory → List ℕ → List MarkedBuffer → List Window → List WindowPane
windows_to directory user ks xs =
    map (window_pane (map (buffer_seen directory user) (buffers_of ks))) (map (window_seen (reads directory (buffers_of ks) user)) (map (window_of ks) xs))

-- a buffer's name and flag, where its attributes may be read
abbrev pub heading_to : Directory → List ℕ → List MarkedBuffer → List ℕ → Option (List ℕ × Bool)
heading_to directory user ks name =
    if may directory user ReadAttributes (marked_at name ks).buffer then Some (name, (marked_at name ks).buffer.modified) else None

-- one who may read both its attributes and its text
abbrev pub ReadsAll : Directory → List ℕ → Buffer → Type 0
ReadsAll directory user b = (may directory user ReadAttributes b ≡ true) × (may directory user ReadData b ≡ true)

-- a buffer that was found has the marks of a window: where its point is, and where its first row begins
pub record AreMarksOf (f : Named) (x : WindowMarks) : Type 0 where
  pub point : IsMark f.name x.point f.all
  pub top : IsMark f.name x.top f.all

-- the numbers that were taken from a text
pub record IsMeasured (text : List ℕ) (point top line row place start : ℕ) : Type 0 where
  pub line_is : line ≡ line_of text point
  pub row_is : row ≡ point_row text top point
  pub place_is : place ≡ column text point
  pub start_is : start ≡ line_start text top

-- from a text with these marks, for a window with some of them
abbrev pub IsMeasuredBy : List ℕ → List (Option ℕ) → WindowMarks → ℕ → ℕ → ℕ → ℕ → Type 0
IsMeasuredBy text marks x line row place start = IsMeasured text (position_in marks x.point) (position_in marks x.top) line row place start

-- the rows of a text that may be read, and its mode line
abbrev pub window_marks_rows : Bool → ℕ → ℕ → MarkedBuffer → Option (List ℕ × Bool) → WindowMarks → List Row
window_marks_rows selected cols height k heading x =
    read_rows selected cols height k.buffer.text (position_in k.marks x.top) (position_in k.marks x.point)
    ++ mode_row cols (buffer_mode heading (place_of k.buffer.text (position_in k.marks x.point))) ∷ []

-- the lines of a picture with those of a buffer that was found, whose flag may be told or not, in their place
abbrev pub found_lines : Place → Named → Option Bool → WindowMarks → Picture → List Row
found_lines place f heading x p =
    rows_put place.first (window_marks_rows place.selected p.cols place.window.now.height (marked_at f.name f.all) (told_as f.name heading) x) p.lines

-- the rows of a window, as its user sees them
abbrev pub user_rows : Bool → ℕ → Directory → List ℕ → List MarkedBuffer → Window → List Row
user_rows selected cols directory user ks x = window_rows selected cols (window_to directory user ks x)

-- the lines of a picture with them in their place
abbrev pub window_lines : Place → Directory → List ℕ → List MarkedBuffer → Picture → List Row
window_lines place directory user ks p = rows_put place.first (user_rows place.selected p.cols directory user ks place.window.now) p.lines

-- the row below them
abbrev pub row_below : Place → ℕ
row_below place = place.first + (place.window.now.height + 1)

-- where the cursor is in a window, from its first cell, if it is the selected one
abbrev pub cursor_to : Place → Directory → List ℕ → List MarkedBuffer → ℕ → ℕ × ℕ
cursor_to place directory user ks cols = window_cursor cols (Some (window_to directory user ks place.window.now))

-- the screen of a session, whatever other sessions there are, and whichever id comes next
abbrev pub IsScreenOf : Directory → List MarkedBuffer → Session → Picture → Type 0
IsScreenOf directory ks x p = (sessions : List Session) (next : Option ℕ) → p ≡ screen (world_of directory ks sessions next) (session_of ks x)

-- where the selected window's cursor is in such a text
abbrev pub window_marks_cursor : ℕ → ℕ → MarkedBuffer → WindowMarks → ℕ × ℕ
window_marks_cursor cols height k x = (
  min (height - 1) (point_row k.buffer.text (position_in k.marks x.top) (position_in k.marks x.point)),
  column k.buffer.text (position_in k.marks x.point) - shift_for cols (column k.buffer.text (position_in k.marks x.point)),
)

-- in one that shows a buffer that was found
abbrev pub found_cursor : Place → Named → WindowMarks → ℕ → ℕ × ℕ
found_cursor place f x cols = window_marks_cursor cols place.window.now.height (marked_at f.name f.all) x

-- the line of a prompt in a row, and the cursor behind it
abbrev pub prompt_drawn : PromptInput → ℕ → Picture → Picture
prompt_drawn x row p = record p {
  lines = rows_put row (line_row p.cols (prompt_line x.question x.input) ∷ []) p.lines;
  row = row;
  col = line_end_column p.cols (prompt_line x.question x.input);
}

-- the last row and the cursor of one in this mode, who has typed this and is told this, where the point is shown here
abbrev pub row_in_mode : Mode → List ℕ → Message → ℕ → ℕ × ℕ → Picture → Picture
row_in_mode mode input echo row point p =
    let line = unless_told (line_in_mode mode input) echo in
    record p {
      lines = rows_put row (echo_row p.cols line echo ∷ []) p.lines;
      row = (cursor_in_mode mode p.rows p.cols line point).0;
      col = (cursor_in_mode mode p.rows p.cols line point).1;
    }

-- of one who holds this
abbrev pub last_row_drawn : State → ℕ → ℕ × ℕ → Picture → Picture
last_row_drawn state row point p = row_in_mode state.mode state.input state.echo row point p

-- nothing is told, no search goes on and no prompt waits
abbrev pub IsAtRest : State → Type 0
IsAtRest state = (row : ℕ) (point : ℕ × ℕ) (p : Picture) → last_row_drawn state row point p ≡ row_in_mode Plain [] (Says Silent) row point p

-- the line of a search in a row, and the cursor at the point
abbrev pub search_line : Aim → List ℕ
search_line (Find s) = search_text s.direction s.failing ++ s.pattern
search_line (Replace r) = codes "Replace? "

abbrev pub search_drawn : Aim → ℕ → ℕ × ℕ → Picture → Picture
search_drawn a row point p = record p {
  lines = rows_put row (line_row p.cols (search_line a) ∷ []) p.lines;
  row = point.0;
  col = point.1;
}
