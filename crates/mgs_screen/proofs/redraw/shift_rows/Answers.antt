use Rattle.std.proofs.Common.{◌≤◌, ℕ, List, length, arith}
use Rattle.mgs_model.specs.Picture.{Picture}
use Rattle.mgs_screen.proofs.Redrawn.{shown_over, shown_there, shown_unshifted}
use Rattle.mgs_screen.proofs.redraw.shift_rows.Goals as goal

pub returns-clause-grid : goal.returns-clause-grid
returns-clause-grid g c = λ stand.
    let p : Picture = c.args.grid.now in
    let q : Picture = c.shift_row-2.new.grid in
    let r : Picture = c.shift_row-3.new.grid in
    let d = c.args.drawn.now in
    let row : ℕ = c.args.from.row in
    let text : List ℕ = g.T.Text.text c.args.text.now in
    let begins : d.first ≤ length p.lines = omega (arith, c.requires.pane.room, c.rows.ensures.picture.count) in
    let first = c.shift_row-2.ensures.grid stand in
    shown_over d row 0 d.shown.row d.shown.shift text text p q r begins first
    (c.shift_row-3.ensures.grid (shown_unshifted d row d.shown.row text q (shown_there d row 0 text p q begins first)))
