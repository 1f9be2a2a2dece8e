use Rattle.std.proofs.Common.{ℕ, List, drop, refl}
use Rattle.mgs_model.specs.Picture.{Picture}
use Rattle.mgs_model.specs.Rows.{text_rows, shift_at}
use Rattle.mgs_screen.proofs.Redrawn.{row_shifted, shift_here, shown_already}
use Rattle.mgs_screen.proofs.redraw.shift_row.Goals as goal

pub returns-then-from-to-clause-grid : goal.returns-then-from-to-clause-grid
returns-then-from-to-clause-grid g c = λ stand.
    let d = c.args.drawn.now in
    shown_already d c.args.from.row c.args.from.shift c.args.to (g.T.Text.text c.args.text.now) c.args.grid.now c.rows.ensures.picture.count c.requires.pane.room c.if-from-to.true stand

pub returns-clause-grid : goal.returns-clause-grid
returns-clause-grid g c = λ stand.
    let p : Picture = c.args.grid.now in
    let d = c.args.drawn.now in
    let row : ℕ = c.args.from.row in
    let rest : List ℕ = drop d.shown.start (g.T.Text.text c.args.text.now) in
    c.draw_row_of.ensures.grid row c.args.to (text_rows p.cols (shift_at row c.args.from.shift) 0 d.height rest) (shift_here row c.args.to row refl) stand (row_shifted p.cols row c.args.from.shift c.args.to d.height rest)
