use Rattle.std.proofs.Common.{◌≡◌, ◌+◌, ℕ, List, drop, length, ap, ◌∙◌, arith}
use Rattle.mgs_model.specs.Lines.{start_of}
use Rattle.mgs_model.specs.Picture.{Picture}
use Rattle.mgs_model.specs.Rows.{Row, text_rows, shift_at}
use Rattle.mgs_grid.specs.Panes.{TextPane}
use Rattle.mgs_grid.proofs.Pictures.{length-text_rows}
use Rattle.mgs_grid.proofs.Panes.{text_by_row}
use Rattle.mgs_screen.proofs.Changes.{start_down}
use Rattle.mgs_screen.proofs.Canvas.{is_put, row_drawn}
use Rattle.mgs_screen.proofs.Redrawn.{but_one, out_of_sight}
use Rattle.mgs_screen.proofs.TabRows.{row_same}
use Rattle.mgs_screen.proofs.redraw.draw_row_of.Goals as goal

pub returns-clause-grid : goal.returns-clause-grid
returns-clause-grid g c = λ top from olds column stand same.
    let p : Picture = c.args.grid.now in
    let d = c.args.drawn.now in
    let text : List ℕ = g.T.Text.text c.args.text.now in
    let row : ℕ = c.args.at.row in
    let at : ℕ = d.first + row in
    let begin = c.begin_at-begin.result in
    let start : ℕ = start_of (d.shown.above + row) text in
    let pane : TextPane = record { first = d.first; height = d.height; top = d.shown.start; row = top; shift = from } in
    let drawn = but_one row start c.args.at.shift pane text olds p c.rows.ensures.picture.count c.requires.pane.room c.if-at-drawn.false
    (start_down d.shown.above row d.shown.start text c.requires.pane.top.begins) column stand same in
    c.draw_text_row.ensures.row
    ∙ ap (λ (ls : List Row). record p { lines = ls }) (
    row_same at begin.shift c.args.at.shift begin.place start text p (c.begin_at-begin.ensures.row p.cols)
    ∙ text_by_row row at start c.args.at.shift pane text p c.rows.ensures.picture.count drawn)

pub returns-clause-drawn : goal.returns-clause-drawn
returns-clause-drawn g c =
    let p : Picture = c.args.grid.now in
    let q : Picture = c.draw_text_row.new.self in
    let at : ℕ = c.args.drawn.now.first + c.args.at.row in
    let begin = c.begin_at-begin.result in
    let rest : List ℕ = drop begin.place (g.T.Text.text c.args.text.now) in
    let pane : List Row = text_rows p.cols (shift_at 0 begin.shift) 0 1 rest in
    let size : length pane ≡ 1 = length-text_rows p.cols (shift_at 0 begin.shift) 0 1 rest in
    row_drawn c.args.rows.now c.insert.new.self at pane p q
    (is_put at pane p q c.draw_text_row.ensures.row (omega (arith, size, c.requires.pane.room, c.if-at-drawn.false, c.rows.ensures.picture.count))) size c.insert.ensures.kept c.insert.ensures.put

pub returns-then-at-drawn-clause-grid : goal.returns-then-at-drawn-clause-grid
returns-then-at-drawn-clause-grid g c = λ top from olds column stand same.
    let d = c.args.drawn.now in
    out_of_sight c.args.at.row d.first d.height d.shown.start top from (g.T.Text.text c.args.text.now) olds c.args.grid.now c.rows.ensures.picture.count c.requires.pane.room c.if-at-drawn.true stand same
