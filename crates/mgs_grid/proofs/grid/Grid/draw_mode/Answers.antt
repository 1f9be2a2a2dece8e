use Rattle.std.proofs.Common.{◌≡◌, ℕ, ◌<◌, [], ◌∷◌, length, arith, ap, ◌∙◌}
use Rattle.mgs_model.specs.Rows.{mode_row, buffer_mode}
use Rattle.mgs_grid.specs.Cells.{rows_put}
use Rattle.mgs_model.specs.Picture.{Picture, IsRow}
use Rattle.mgs_grid.proofs.Pictures.{set_put, set_picture, row_width, with_lines, mode_is}
use Rattle.mgs_grid.proofs.grid.Grid.draw_mode.Goals as goal

pub invariant_of-self : goal.invariant_of-self
invariant_of-self c =
    let old : Picture = record { rows = c.self.inside.rows; cols = c.self.inside.cols; lines = c.self.inside.lines.items; row = c.self.inside.row; col = c.self.inside.col } in
    let within : c.args.row < c.self.inside.rows = omega (arith, c.requires, ap (λ (p : Picture). p.rows) c.self.view_is) in
    let wide : length c.index_mut.result.now.text ≡ c.self.inside.cols = row_width old c.args.row c.index_mut.result.now c.self.invariant within c.index_mut.ensures.value in
    let is : c.draw_mode.new.self ≡ mode_row c.self.inside.cols (buffer_mode c.args.heading c.args.place) = c.draw_mode.ensures.row ∙ ap (λ (k : ℕ). mode_row k (buffer_mode c.args.heading c.args.place)) wide in
    let good : IsRow c.self.inside.cols c.draw_mode.new.self = rw is (mode_is c.self.inside.cols (buffer_mode c.args.heading c.args.place) (omega (arith, c.self.invariant.size.some_cols)) c.draw_mode.ensures.printable) in
    set_picture old c.args.row c.draw_mode.new.self c.self.invariant good

pub returns : goal.returns
returns c =
    let old : Picture = record { rows = c.self.inside.rows; cols = c.self.inside.cols; lines = c.self.inside.lines.items; row = c.self.inside.row; col = c.self.inside.col } in
    let within : c.args.row < c.self.inside.rows = omega (arith, c.requires, ap (λ (p : Picture). p.rows) c.self.view_is) in
    let wide : length c.index_mut.result.now.text ≡ c.self.inside.cols = row_width old c.args.row c.index_mut.result.now c.self.invariant within c.index_mut.ensures.value in
    let is : c.draw_mode.new.self ≡ mode_row c.self.inside.cols (buffer_mode c.args.heading c.args.place) = c.draw_mode.ensures.row ∙ ap (λ (k : ℕ). mode_row k (buffer_mode c.args.heading c.args.place)) wide in
    with_lines old c.args.self.now (λ (p : Picture). rows_put c.args.row (mode_row p.cols (buffer_mode c.args.heading c.args.place) ∷ []) p.lines) _ c.self.view_is (set_put c.self.inside.lines.items c.args.row (mode_row c.self.inside.cols (buffer_mode c.args.heading c.args.place)) c.draw_mode.new.self (omega (arith, within, c.self.invariant.count)) is)
