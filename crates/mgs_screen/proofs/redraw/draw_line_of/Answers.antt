use Rattle.std.proofs.Common.{◌≡◌, ℕ, List, drop, refl, sym, ◌∙◌}
use Rattle.mgs_model.specs.Picture.{Picture}
use Rattle.mgs_model.specs.Rows.{text_rows, shift_at}
use Rattle.mgs_screen.proofs.Redrawn.{rows_edited, shift_elsewhere, shift_here, shift_other}
use Rattle.mgs_screen.proofs.redraw.draw_line_of.Goals as goal

pub returns-then-down-from-clause-grid : goal.returns-then-down-from-clause-grid
returns-then-down-from-clause-grid g c = λ e old stand edited.
    let p : Picture = c.args.grid.now in
    let d = c.args.drawn.now in
    let row : ℕ = c.args.from.row in
    let shift : ℕ = c.args.from.shift in
    let text : List ℕ = g.T.Text.text c.args.text.now in
    c.draw_row_of.ensures.grid row shift (text_rows p.cols (shift_at row shift) 0 d.height (drop e.start old)) (shift_elsewhere row shift c.args.down c.if-down-from.true) stand
    (rows_edited p.cols row shift shift d.height c.args.down e.start d.shown.start old text (λ k other. refl) edited)

pub returns-clause-grid : goal.returns-clause-grid
returns-clause-grid g c = λ e old stand edited.
    let p : Picture = c.args.grid.now in
    let d = c.args.drawn.now in
    let row : ℕ = c.args.from.row in
    let down : ℕ = c.args.down in
    let shift : ℕ = c.args.from.shift in
    let now : ℕ = c.shift_of-shift.result in
    let here : down ≡ row = c.if-down-from.false in
    let text : List ℕ = g.T.Text.text c.args.text.now in
    c.draw_row_of-2.ensures.grid row now (text_rows p.cols (shift_at row shift) 0 d.height (drop e.start old)) (shift_here row now down here) stand
    (rows_edited p.cols row shift now d.height down e.start d.shown.start old text (λ k other. shift_other row shift now k (λ at. other (at ∙ sym here))) edited)
