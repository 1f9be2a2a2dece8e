use Rattle.std.proofs.Common.{◌≡◌, ℕ, ◌<◌, [], ◌∷◌, length, arith, ap, ◌∙◌, None}
use Rattle.mgs_model.specs.Rows.{echo_row}
use Rattle.mgs_grid.specs.Cells.{rows_put}
use Rattle.mgs_model.specs.Messages.{message_text}
use Rattle.mgs_model.specs.Picture.{Picture, IsRow}
use Rattle.mgs_grid.proofs.Pictures.{set_put, set_picture, row_width, with_lines, plain_is}
use Rattle.mgs_grid.proofs.grid.Grid.draw_echo.Goals as goal

pub invariant_of-self : goal.invariant_of-self
invariant_of-self c =
    let old : Picture = record { rows = c.self.inside.rows; cols = c.self.inside.cols; lines = c.self.inside.lines.items; row = c.self.inside.row; col = c.self.inside.col } in
    let within : c.args.row < c.self.inside.rows = omega (arith, c.requires, ap (λ (p : Picture). p.rows) c.self.view_is) in
    let wide : length c.index_mut.result.now.text ≡ c.self.inside.cols = row_width old c.args.row c.index_mut.result.now c.self.invariant within c.index_mut.ensures.value in
    let is : c.draw_echo.new.self ≡ echo_row c.self.inside.cols None c.args.message.now = c.draw_echo.ensures.row ∙ ap (λ (k : ℕ). echo_row k None c.args.message.now) wide in
    let good : IsRow c.self.inside.cols c.draw_echo.new.self = rw is (plain_is c.self.inside.cols (message_text c.args.message.now) (omega (arith, c.self.invariant.size.some_cols)) c.draw_echo.ensures.printable) in
    set_picture old c.args.row c.draw_echo.new.self c.self.invariant good

pub returns : goal.returns
returns c =
    let old : Picture = record { rows = c.self.inside.rows; cols = c.self.inside.cols; lines = c.self.inside.lines.items; row = c.self.inside.row; col = c.self.inside.col } in
    let within : c.args.row < c.self.inside.rows = omega (arith, c.requires, ap (λ (p : Picture). p.rows) c.self.view_is) in
    let wide : length c.index_mut.result.now.text ≡ c.self.inside.cols = row_width old c.args.row c.index_mut.result.now c.self.invariant within c.index_mut.ensures.value in
    let is : c.draw_echo.new.self ≡ echo_row c.self.inside.cols None c.args.message.now = c.draw_echo.ensures.row ∙ ap (λ (k : ℕ). echo_row k None c.args.message.now) wide in
    with_lines old c.args.self.now (λ (p : Picture). rows_put c.args.row (echo_row p.cols None c.args.message.now ∷ []) p.lines) _ c.self.view_is (set_put c.self.inside.lines.items c.args.row (echo_row c.self.inside.cols None c.args.message.now) c.draw_echo.new.self (omega (arith, within, c.self.invariant.count)) is)
