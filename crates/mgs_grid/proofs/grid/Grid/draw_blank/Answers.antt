use Rattle.std.proofs.Common.{◌≡◌, ℕ, ◌+◌, ◌≤◌, List, length, arith, ap, All, rules}
use Rattle.mgs_model.specs.Rows.{Row, blank_rows}
use Rattle.mgs_model.specs.Picture.{Picture, IsRow}
use Rattle.mgs_grid.proofs.Pictures.{put_picture, window_put, blanks_are, length-blank_rows}
use Rattle.mgs_grid.proofs.grid.Grid.draw_blank.Goals as goal

pub invariant_of-self : goal.invariant_of-self
invariant_of-self c =
    let old : Picture = record { rows = c.self.inside.rows; cols = c.self.inside.cols; lines = c.self.inside.lines.items; row = c.self.inside.row; col = c.self.inside.col } in
    let rows_is : c.self.inside.rows ≡ c.args.self.now.rows = ap (λ (p : Picture). p.rows) c.self.view_is in
    let cols : ℕ = c.self.inside.cols in
    let some : 2 ≤ cols = omega (arith, c.self.invariant.size.some_cols) in
    let more : List Row = blank_rows cols c.args.height in
    let size : length more ≡ c.args.height = length-blank_rows cols c.args.height in
    let each : All (IsRow cols) more = blanks_are cols c.args.height some in
    let fits : c.args.first + length more ≤ c.self.inside.rows = omega (arith, c.requires, size, rows_is) in
    let is : c.clear_rows.new.lines ≡ more = search rules in
    let put = window_put c.args.first c.args.height c.clear_rows.new.lines more c.deref_mut.result.now is size in
    put_picture old c.args.first c.self.inside.lines.len more c.deref_mut.result.now _ c.self.invariant c.deref_mut.ensures.value c.deref_mut.ensures.len put fits each
