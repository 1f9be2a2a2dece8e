use Rattle.std.proofs.Common.{◌≡◌, ◌+◌, ◌++◌, ℕ, length, arith, length-append, Bool, true, false, List, [], ◌∷◌, Option, None, sym, ap, ◌∙◌}
use Rattle.mgs_model.specs.Picture.{Picture}
use Rattle.mgs_model.specs.World.{may}
use Rattle.mgs_model.specs.Rows.{Row, mode_row, buffer_mode, unread_rows}
use Rattle.mgs_grid.specs.Cells.{rows_put}
use Rattle.mgs_model.specs.declared.right.Right.TheVariants.{ReadData}
use Rattle.mgs_model.specs.declared.entry.Decision.{Decision}
use Rattle.mgs_buffers.specs.Found.{Named}
use Rattle.mgs_buffers.specs.MarkedBuffer.{MarkedBuffer, HasBuffer, marked_at}
use Rattle.mgs_buffers.specs.Permitting.{right_decision}
use Rattle.mgs_windows.specs.declared.WindowMarks.{WindowMarks}
use Rattle.mgs_windows.specs.declared.Window.{Window}
use Rattle.mgs_model.specs.Draw.{pane_rows}
use Rattle.mgs_grid.proofs.Pictures.{length-unread_rows}
use Rattle.mgs_world.specs.Worlds.{buffers_of}
use Rattle.mgs_screen.specs.Listings.{rows_to}
use Rattle.mgs_screen.proofs.Canvas.{IsPut, is_put, put_drawn}
use Rattle.mgs_screen.proofs.RowPanes.{length_rows}
use Rattle.mgs_screen.proofs.TextsDrawn.{texts_passed}
use Rattle.mgs_screen.specs.Screens.{heading_to, window_marks_cursor, window_marks_rows}
use Rattle.mgs_screen.specs.TextsDrawn.{told_as}
use Rattle.mgs_screen.proofs.Drawings.{pane_put, shown_kept, window_read, window_unread, window_cursor_read, window_cursor_unread}
use Rattle.mgs_screen.proofs.screen.redraw_window.Goals as goal

pub find-found-requires : goal.find-found-requires
find-found-requires g c =
    shown_kept c.args.buffers.now c.args.place.now.window.now c.in-Some.window_marks c.requires.sound c.in-Some.is

pub returns-then-reads-clause-lines : goal.returns-then-reads-clause-lines
returns-then-reads-clause-lines g c =
    let x : WindowMarks = c.in-Some.window_marks in
    let ks : List MarkedBuffer = c.args.buffers.now in
    let w : Window = c.args.place.now.window.now in
    let cols : ℕ = c.args.grid.now.cols in
    let user : List ℕ = c.args.viewer.now.user.now in
    let kept : HasBuffer x.name ks = shown_kept ks w x c.requires.sound c.in-Some.is in
    let can : may c.args.viewer.now.directory.now user ReadData (marked_at x.name ks).buffer ≡ true =
    sym (ap (λ (f : Named). may c.args.viewer.now.directory.now user ReadData (marked_at f.name f.all).buffer) c.find-found.ensures) ∙ sym c.seen-heading.ensures.reads ∙ c.if-reads.true in
    let drawn : Named → Option (List ℕ × Bool) → List Row = λ (f : Named) (h : Option (List ℕ × Bool)).
    rows_put c.args.place.now.first (window_marks_rows c.args.place.now.selected cols w.height (marked_at f.name f.all) h x) c.args.grid.now.lines in
    c.redraw_text.ensures.lines
    ∙ ap (drawn c.find-found.result) c.seen-heading.ensures.heading
    ∙ ap (λ (f : Named). drawn f (heading_to c.args.viewer.now.directory.now user f.all f.name)) c.find-found.ensures
    ∙ ap (λ (rows : List Row). rows_put c.args.place.now.first rows c.args.grid.now.lines) (sym (window_read c.args.place.now.selected cols c.args.viewer.now.directory.now user ks w x c.in-Some.is kept can))

pub returns-then-reads-clause-cursor : goal.returns-then-reads-clause-cursor
returns-then-reads-clause-cursor g c = λ selected.
    let x : WindowMarks = c.in-Some.window_marks in
    let ks : List MarkedBuffer = c.args.buffers.now in
    let w : Window = c.args.place.now.window.now in
    let user : List ℕ = c.args.viewer.now.user.now in
    let kept : HasBuffer x.name ks = shown_kept ks w x c.requires.sound c.in-Some.is in
    let can : may c.args.viewer.now.directory.now user ReadData (marked_at x.name ks).buffer ≡ true =
    sym (ap (λ (f : Named). may c.args.viewer.now.directory.now user ReadData (marked_at f.name f.all).buffer) c.find-found.ensures) ∙ sym c.seen-heading.ensures.reads ∙ c.if-reads.true in
    c.redraw_text.ensures.cursor selected
    ∙ ap (λ (f : Named). window_marks_cursor c.args.grid.now.cols w.height (marked_at f.name f.all) x) c.find-found.ensures
    ∙ sym (window_cursor_read c.args.grid.now.cols c.args.viewer.now.directory.now user ks w x c.in-Some.is kept can)

pub returns-clause-lines : goal.returns-clause-lines
returns-clause-lines g c =
    let x : WindowMarks = c.in-Some.window_marks in
    let ks : List MarkedBuffer = c.args.buffers.now in
    let w : Window = c.args.place.now.window.now in
    let cols : ℕ = c.args.grid.now.cols in
    let user : List ℕ = c.args.viewer.now.user.now in
    let kept : HasBuffer x.name ks = shown_kept ks w x c.requires.sound c.in-Some.is in
    let cannot : may c.args.viewer.now.directory.now user ReadData (marked_at x.name ks).buffer ≡ false =
    sym (ap (λ (f : Named). may c.args.viewer.now.directory.now user ReadData (marked_at f.name f.all).buffer) c.find-found.ensures) ∙ sym c.seen-heading.ensures.reads ∙ c.if-reads.false in
    let head : Named → Option (List ℕ × Bool) = λ (f : Named). heading_to c.args.viewer.now.directory.now user f.all f.name in
    let why : Named → Decision = λ (f : Named). right_decision c.args.viewer.now.directory.now (marked_at f.name f.all).buffer user ReadData in
    let drawn : Option (List ℕ × Bool) → Decision → List Row = λ (h : Option (List ℕ × Bool)) (d : Decision).
    rows_put c.args.place.now.first (unread_rows cols w.height d ++ mode_row cols (buffer_mode h None) ∷ []) c.args.grid.now.lines in
    (pane_put c.args.place.now.first w.height (unread_rows cols w.height c.denial-decision.result) (buffer_mode (told_as c.name.result.now c.seen-heading.result.0) None) c.args.grid.now c.draw_unread.new.self c.draw_unread_mode.new.grid
    c.requires.room.rows c.cols.ensures.picture.count (length-unread_rows cols w.height c.denial-decision.result) c.draw_unread.ensures c.draw_unread_mode.ensures).lines
    ∙ ap (λ (h : Option (List ℕ × Bool)). drawn h c.denial-decision.result) (ap (λ (n : List ℕ). told_as n c.seen-heading.result.0) c.name.ensures.value ∙ c.seen-heading.ensures.heading)
    ∙ ap (drawn (head c.find-found.result)) c.denial-decision.ensures.value
    ∙ ap (λ (f : Named). drawn (head f) (why f)) c.find-found.ensures
    ∙ ap (λ (rows : List Row). rows_put c.args.place.now.first rows c.args.grid.now.lines) (sym (window_unread c.args.place.now.selected cols c.args.viewer.now.directory.now user ks w x c.in-Some.is kept cannot))

pub returns-clause-cursor : goal.returns-clause-cursor
returns-clause-cursor g c = λ selected.
    let x : WindowMarks = c.in-Some.window_marks in
    let ks : List MarkedBuffer = c.args.buffers.now in
    let w : Window = c.args.place.now.window.now in
    let user : List ℕ = c.args.viewer.now.user.now in
    let kept : HasBuffer x.name ks = shown_kept ks w x c.requires.sound c.in-Some.is in
    let cannot : may c.args.viewer.now.directory.now user ReadData (marked_at x.name ks).buffer ≡ false =
    sym (ap (λ (f : Named). may c.args.viewer.now.directory.now user ReadData (marked_at f.name f.all).buffer) c.find-found.ensures) ∙ sym c.seen-heading.ensures.reads ∙ c.if-reads.false in
    sym (window_cursor_unread c.args.grid.now.cols c.args.viewer.now.directory.now user ks w x c.in-Some.is kept cannot)

pub returns-in_default-clause-stands : goal.returns-in_default-clause-stands
returns-in_default-clause-stands g c =
    let p : Picture = c.args.grid.now in
    let q : Picture = c.draw_rows.new.grid in
    let w : Window = c.args.place.now.window.now in
    let first : ℕ = c.args.place.now.first in
    let rows : List Row = pane_rows c.args.place.now.selected p.cols w.height (rows_to c.args.viewer.now.directory.now c.args.viewer.now.user.now c.args.buffers.now w.rows) in
    let size : length rows ≡ w.height + 1 = length_rows c.args.place.now.selected p.cols w.height c.args.viewer.now.directory.now c.args.viewer.now.user.now c.args.buffers.now w.rows in
    let put : IsPut first rows p q = is_put first rows p q (c.draw_rows.ensures.grid c.args.place.now.selected) (omega (arith, size, c.requires.room.rows, c.cols.ensures.picture.count)) in
    texts_passed (buffers_of c.args.buffers.now) p q first (first + (w.height + 1)) rows c.args.redraw.now.before.now c.args.redraw.now.texts c.note_rows.new.texts put (omega (arith, size)) c.note_rows.ensures.texts c.requires.stands

pub returns-in_default-clause-drawn : goal.returns-in_default-clause-drawn
returns-in_default-clause-drawn g c =
    let p : Picture = c.args.grid.now in
    let q : Picture = c.draw_rows.new.grid in
    let w : Window = c.args.place.now.window.now in
    let first : ℕ = c.args.place.now.first in
    let rows : List Row = pane_rows c.args.place.now.selected p.cols w.height (rows_to c.args.viewer.now.directory.now c.args.viewer.now.user.now c.args.buffers.now w.rows) in
    let size : length rows ≡ w.height + 1 = length_rows c.args.place.now.selected p.cols w.height c.args.viewer.now.directory.now c.args.viewer.now.user.now c.args.buffers.now w.rows in
    let put : IsPut first rows p q = is_put first rows p q (c.draw_rows.ensures.grid c.args.place.now.selected) (omega (arith, size, c.requires.room.rows, c.cols.ensures.picture.count)) in
    put_drawn c.args.redraw.now.rows c.note_rows.new.rows first (w.height + 1) rows p q put size c.note_rows.ensures.kept c.note_rows.ensures.put

pub returns-clause-stands : goal.returns-clause-stands
returns-clause-stands g c =
    let p : Picture = c.args.grid.now in
    let q : Picture = c.draw_unread_mode.new.grid in
    let w : Window = c.args.place.now.window.now in
    let first : ℕ = c.args.place.now.first in
    let pane : List Row = unread_rows p.cols w.height c.denial-decision.result in
    let size : length pane ≡ w.height = length-unread_rows p.cols w.height c.denial-decision.result in
    let mode : List ℕ = buffer_mode (told_as c.name.result.now c.seen-heading.result.0) None in
    let put : IsPut first (pane ++ mode_row p.cols mode ∷ []) p q = pane_put first w.height pane mode p c.draw_unread.new.self q c.requires.room.rows c.cols.ensures.picture.count size c.draw_unread.ensures c.draw_unread_mode.ensures in
    texts_passed (buffers_of c.args.buffers.now) p q first (first + (w.height + 1)) (pane ++ mode_row p.cols mode ∷ []) c.args.redraw.now.before.now c.args.redraw.now.texts c.note_rows-2.new.texts put
    (omega (arith, length-append pane (mode_row p.cols mode ∷ []), size)) c.note_rows-2.ensures.texts c.requires.stands

pub returns-clause-drawn : goal.returns-clause-drawn
returns-clause-drawn g c =
    let p : Picture = c.args.grid.now in
    let q : Picture = c.draw_unread_mode.new.grid in
    let w : Window = c.args.place.now.window.now in
    let first : ℕ = c.args.place.now.first in
    let pane : List Row = unread_rows p.cols w.height c.denial-decision.result in
    let size : length pane ≡ w.height = length-unread_rows p.cols w.height c.denial-decision.result in
    let mode : List ℕ = buffer_mode (told_as c.name.result.now c.seen-heading.result.0) None in
    let put : IsPut first (pane ++ mode_row p.cols mode ∷ []) p q = pane_put first w.height pane mode p c.draw_unread.new.self q c.requires.room.rows c.cols.ensures.picture.count size c.draw_unread.ensures c.draw_unread_mode.ensures in
    put_drawn c.args.redraw.now.rows c.note_rows-2.new.rows first (w.height + 1) (pane ++ mode_row p.cols mode ∷ []) p q put (omega (arith, length-append pane (mode_row p.cols mode ∷ []), size)) c.note_rows-2.ensures.kept c.note_rows-2.ensures.put
