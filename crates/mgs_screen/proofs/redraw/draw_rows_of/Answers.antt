use Rattle.std.proofs.Common.{◌≡◌, ℕ, List, length, arith}
use Rattle.mgs_model.specs.Picture.{Picture}
use Rattle.mgs_model.specs.Rows.{Row}
use Rattle.mgs_screen.specs.TextsDrawn.{shown_rows}
use Rattle.mgs_screen.proofs.Canvas.{is_put, put_drawn}
use Rattle.mgs_screen.proofs.TextsDrawn.{length-shown_rows}
use Rattle.mgs_screen.proofs.redraw.draw_rows_of.Goals as goal

pub returns-clause-drawn : goal.returns-clause-drawn
returns-clause-drawn g c =
    let p : Picture = c.args.grid.now in
    let q : Picture = c.draw_text.new.self in
    let d = c.args.drawn.now in
    let text : List ℕ = g.T.Text.text c.args.text.now in
    let pane : List Row = shown_rows p.cols d d.shown.row d.shown.shift text in
    let size : length pane ≡ d.height = length-shown_rows p.cols d d.shown.row d.shown.shift text in
    put_drawn c.args.rows.now c.insert_rows.new.self d.first d.height pane p q
    (is_put d.first pane p q c.draw_text.ensures (omega (arith, size, c.requires.pane.room, c.rows.ensures.picture.count))) size c.insert_rows.ensures.kept c.insert_rows.ensures.put
