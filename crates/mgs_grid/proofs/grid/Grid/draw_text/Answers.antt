use Rattle.std.proofs.Common.{◌≡◌, ℕ, ◌+◌, ◌≤◌, List, length, drop, arith, ap, All, rules}
use Rattle.mgs_model.specs.Rows.{Row, text_rows, shift_at}
use Rattle.mgs_model.specs.Picture.{Picture, IsRow}
use Rattle.mgs_grid.proofs.Printable.{rows_are}
use Rattle.mgs_grid.proofs.Pictures.{put_picture, window_put, length-text_rows}
use Rattle.mgs_grid.proofs.grid.Grid.draw_text.Goals as goal

pub invariant_of-self : goal.invariant_of-self
invariant_of-self g c =
    let old : Picture = record { rows = c.self.inside.rows; cols = c.self.inside.cols; lines = c.self.inside.lines.items; row = c.self.inside.row; col = c.self.inside.col } in
    let rows_is : c.self.inside.rows ≡ c.args.self.now.rows = ap (λ (p : Picture). p.rows) c.self.view_is in
    let cols : ℕ = c.self.inside.cols in
    let some : 2 ≤ cols = omega (arith, c.self.invariant.size.some_cols) in
    let more : List Row = text_rows cols (shift_at c.args.shifted.row c.args.shifted.shift) 0 c.args.height (drop c.args.top (g.T.Text.text c.args.text.now)) in
    let size : length more ≡ c.args.height = length-text_rows cols (shift_at c.args.shifted.row c.args.shifted.shift) 0 c.args.height (drop c.args.top (g.T.Text.text c.args.text.now)) in
    let each : All (IsRow cols) more = rows_are cols (shift_at c.args.shifted.row c.args.shifted.shift) 0 c.args.height (drop c.args.top (g.T.Text.text c.args.text.now)) some in
    let fits : c.args.first + length more ≤ c.self.inside.rows = omega (arith, c.requires.rows, size, rows_is) in
    let is : c.draw_rows.new.lines ≡ more = search rules in
    let put = window_put c.args.first c.args.height c.draw_rows.new.lines more c.deref_mut.result.now is size in
    put_picture old c.args.first c.self.inside.lines.len more c.deref_mut.result.now _ c.self.invariant c.deref_mut.ensures.value c.deref_mut.ensures.len put fits each
