use Rattle.std.proofs.Common.{◌≤◌, ℕ, List, length, subst, arith}
use Rattle.mgs_model.specs.Picture.{Picture}
use Rattle.mgs_screen.specs.Changes.{IsChange, IsLineEdited}
use Rattle.mgs_screen.specs.declared.change.Change.{Change}
use Rattle.mgs_screen.proofs.Redrawn.{shown_over, shown_there}
use Rattle.mgs_screen.proofs.redraw.redraw_rows.Goals as goal

pub returns-in-Line-clause-grid : goal.returns-in-Line-clause-grid
returns-in-Line-clause-grid g c = λ old stand change.
    let p : Picture = c.args.grid.now in
    let q : Picture = c.draw_line_of-shift.new.grid in
    let r : Picture = c.shift_rows-in-Line.new.grid in
    let d = c.args.drawn.now in
    let e = c.args.earlier.now in
    let shift : ℕ = c.draw_line_of-shift.result in
    let text : List ℕ = g.T.Text.text c.args.text.now in
    let edited : IsLineEdited c.in-Line.down e.start d.shown.start old text = subst (λ (x : Change). IsChange x e.start d.shown.start old text) c.in-Line.is change in
    let begins : d.first ≤ length p.lines = omega (arith, c.requires.pane.room, c.rows.ensures.picture.count) in
    let first = c.draw_line_of-shift.ensures.grid e old stand edited in
    shown_over d e.row shift d.shown.row d.shown.shift text text p q r begins first (c.shift_rows-in-Line.ensures.grid (shown_there d e.row shift text p q begins first))
