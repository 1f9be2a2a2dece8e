use Rattle.std.proofs.Common.{◌≡◌, ◌+◌, ◌++◌, ℕ, Bool, List, [], ◌∷◌, Some, length, drop, sym, ap, subst, ◌∙◌, arith}
use Rattle.std.specs.Prelude.{Option, IfSome}
use Rattle.mgs_model.specs.Picture.{Picture}
use Rattle.mgs_model.specs.World.{Buffer, find_buffer}
use Rattle.mgs_model.specs.Rows.{Row, buffer_mode, mode_row, text_rows, shift_at}
use Rattle.mgs_grid.specs.Cells.{rows_put}
use Rattle.mgs_marks.specs.Marks.{position_in}
use Rattle.mgs_buffers.specs.MarkedBuffer.{MarkedBuffer, marked_at}
use Rattle.mgs_grid.proofs.Pictures.{length-text_rows}
use Rattle.mgs_world.specs.Worlds.{buffers_of}
use Rattle.mgs_world.proofs.Found.{found_buffer}
use Rattle.mgs_screen.specs.Screens as screens
use Rattle.mgs_screen.specs.TextsDrawn.{DoesShowMode, Stands, mode_text, text_then, told_as}
use Rattle.mgs_screen.specs.TabStops.{IsTabStop}
use Rattle.mgs_screen.specs.declared.drawn_texts.DrawnText.{DrawnText}
use Rattle.mgs_screen.specs.declared.drawn_texts.ModeLine.{ModeLine}
use Rattle.mgs_screen.specs.declared.drawn_texts.Shown.{Shown}
use Rattle.mgs_screen.proofs.Drawings.{pane_put, text_drawn, window_marks_drawn}
use Rattle.mgs_screen.proofs.Canvas.{IsPut, is_put}
use Rattle.mgs_screen.proofs.TextsDrawn.{found_stands, mode_stands, mode_stays, texts_kept}
use Rattle.mgs_screen.proofs.screen.redraw_text.Goals as goal

pub measure-measures-requires-clause-known : goal.measure-measures-requires-clause-known
measure-measures-requires-clause-known g c =
    let p : Picture = c.args.grid.now in
    let first : ℕ = c.args.place.now.first in
    let name : List ℕ = c.args.found.now.name in
    let bs : List Buffer = buffers_of c.args.found.now.all in
    let o : Option Shown = c.drawn-earlier.result in
    let stands : IfSome o (λ e. Stands bs p (text_then name first c.args.place.now.window.now.height e)) = found_stands bs p c.args.redraw.now.before.now c.args.place.now.index c.name-name.result.now name first c.args.place.now.window.now.height o c.requires.stands.from c.name-name.ensures.value c.drawn-earlier.ensures in
    subst (λ (ys : List ℕ). IfSome c.known_stop-known.result (IsTabStop ys)) (sym c.text-text.ensures.text) (c.known_stop-known.ensures p first c.args.place.now.window.now.height stands)

pub returns-clause-lines : goal.returns-clause-lines
returns-clause-lines g c =
    let p : Picture = c.args.grid.now in
    let between : Picture = c.redraw_pane.new.grid in
    let cols : ℕ = p.cols in
    let height : ℕ = c.args.place.now.window.now.height in
    let k : MarkedBuffer = marked_at c.args.found.now.name c.args.found.now.all in
    let text : List ℕ = g.T.Text.text c.text-text.result.now in
    let marks = g.T.Text.marks c.text-text.result.now in
    let x = c.args.window_marks.now in
    let m = c.measure-measures.result in
    let rest : List ℕ = drop m.start text in
    let pane : List Row = text_rows cols (shift_at m.row m.shift) 0 height rest in
    let shifted : m.shift ≡ screens.screen_shift c.args.place.now.selected cols m.column = c.measure-measures.ensures.shift ∙ ap (λ (n : ℕ). screens.screen_shift c.args.place.now.selected n m.column) c.cols-cols.ensures.value in
    let name : List ℕ = c.args.found.now.name in
    let heading : Option (List ℕ × Bool) = told_as name c.args.heading in
    let line : ModeLine = record { heading = c.args.heading; line = m.line + 1; column = m.column } in
    let said : mode_text c.name-name.result.now line ≡ buffer_mode heading (Some (m.line + 1, m.column)) = ap (λ (n : List ℕ). mode_text n line) c.name-name.ensures.value in
    (pane_put c.args.place.now.first height pane (buffer_mode heading (Some (m.line + 1, m.column))) p between c.redraw_mode.new.grid
    c.requires.room.rows c.cols-cols.ensures.picture.count (length-text_rows cols (shift_at m.row m.shift) 0 height rest) c.redraw_pane.ensures.grid
    (c.redraw_mode.ensures.grid ∙ ap (λ (said : List ℕ). record between { lines = rows_put (c.args.place.now.first + height) (mode_row between.cols said ∷ []) between.lines }) said)).lines
    ∙ ap (λ (rows : List Row). rows_put c.args.place.now.first rows p.lines) (
    text_drawn c.args.place.now.selected cols height heading text (position_in marks x.point) (position_in marks x.top) m.line m.row m.column m.start m.shift c.measure-measures.ensures.is shifted
    ∙ window_marks_drawn c.args.place.now.selected cols height k heading x text (position_in marks x.point) (position_in marks x.top) c.text-text.ensures.text
    (ap (λ ms. position_in ms x.point) c.text-text.ensures.marks) (ap (λ ms. position_in ms x.top) c.text-text.ensures.marks))

pub returns-clause-stands : goal.returns-clause-stands
returns-clause-stands g c =
    let p : Picture = c.args.grid.now in
    let q : Picture = c.redraw_mode.new.grid in
    let height : ℕ = c.args.place.now.window.now.height in
    let first : ℕ = c.args.place.now.first in
    let ks : List MarkedBuffer = c.args.found.now.all in
    let b : Buffer = (marked_at c.args.found.now.name ks).buffer in
    let text : List ℕ = g.T.Text.text c.text-text.result.now in
    let m = c.measure-measures.result in
    let d : DrawnText = record { name = c.name-name.result.now; first = first; height = height; shown = record { serial = c.serial.result; size = c.len.result; above = m.above; start = m.start; row = m.row; shift = m.shift; stop = m.stop; mode = record { heading = c.args.heading; line = m.line + 1; column = m.column } } } in
    let rest : List ℕ = drop m.start text in
    let pane : List Row = text_rows p.cols (shift_at m.row m.shift) 0 height rest in
    let mode : List ℕ = mode_text d.name d.shown.mode in
    let size : length pane ≡ height = length-text_rows p.cols (shift_at m.row m.shift) 0 height rest in
    let put : IsPut first (pane ++ mode_row p.cols mode ∷ []) p q =
    pane_put first height pane mode p c.redraw_pane.new.grid q c.requires.room.rows c.cols-cols.ensures.picture.count size c.redraw_pane.ensures.grid c.redraw_mode.ensures.grid in
    let there : find_buffer d.name (buffers_of ks) ≡ Some b = ap (λ (n : List ℕ). find_buffer n (buffers_of ks)) c.name-name.ensures.value ∙ found_buffer c.args.found.now.name ks c.name-name.ensures.kept in
    texts_kept (buffers_of ks) p q d b text c.args.redraw.now.before.now c.args.redraw.now.texts c.push.new.self put
    there c.serial.ensures c.len.ensures.value c.measure-measures.ensures.top.within c.measure-measures.ensures.stop c.text-text.ensures.text c.push.ensures c.requires.stands

pub redraw_mode-requires-clause-stands : goal.redraw_mode-requires-clause-stands
redraw_mode-requires-clause-stands g c =
    let p : Picture = c.args.grid.now in
    let first : ℕ = c.args.place.now.first in
    let height : ℕ = c.args.place.now.window.now.height in
    let name : List ℕ = c.args.found.now.name in
    let bs : List Buffer = buffers_of c.args.found.now.all in
    let o : Option Shown = c.drawn-earlier.result in
    let m = c.measure-measures.result in
    let rest : List ℕ = drop m.start (g.T.Text.text c.text-text.result.now) in
    let pane : List Row = text_rows p.cols (shift_at m.row m.shift) 0 height rest in
    let size : length pane ≡ height = length-text_rows p.cols (shift_at m.row m.shift) 0 height rest in
    let put : IsPut first pane p c.redraw_pane.new.grid = is_put first pane p c.redraw_pane.new.grid c.redraw_pane.ensures.grid (omega (arith, size, c.requires.room.rows, c.cols-cols.ensures.picture.count)) in
    let stands = found_stands bs p c.args.redraw.now.before.now c.args.place.now.index c.name-name.result.now name first height o c.requires.stands.from c.name-name.ensures.value c.drawn-earlier.ensures in
    let there : IfSome o (λ e. DoesShowMode (first + height) name e.mode c.redraw_pane.new.grid) =
    mode_stays (first + height) first name pane p c.redraw_pane.new.grid o put (omega (arith, size)) (mode_stands bs p name first height o stands) in
    subst (λ (n : List ℕ). IfSome o (λ e. DoesShowMode (first + height) n e.mode c.redraw_pane.new.grid)) (sym c.name-name.ensures.value) there
