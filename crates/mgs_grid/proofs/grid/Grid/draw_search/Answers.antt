use Rattle.std.proofs.Common.{◌≡◌, ◌++◌, ℕ, ◌<◌, ◌≤◌, List, [], ◌∷◌, length, arith, ap, ◌∙◌}
use Rattle.mgs_model.specs.Cells.{cells}
use Rattle.mgs_model.specs.Prompts.{search_text}
use Rattle.mgs_model.specs.Rows.{line_row, line_end_column}
use Rattle.mgs_grid.specs.Cells.{rows_put}
use Rattle.mgs_model.specs.Picture.{Picture, IsRow}
use Rattle.mgs_grid.proofs.Ends.{line_is, length-line_shown}
use Rattle.mgs_grid.proofs.Pictures.{set_put, set_picture, row_width, with_lines}
use Rattle.mgs_grid.proofs.grid.Grid.draw_search.Goals as goal

pub invariant_of-self : goal.invariant_of-self
invariant_of-self c =
    let old : Picture = record { rows = c.self.inside.rows; cols = c.self.inside.cols; lines = c.self.inside.lines.items; row = c.self.inside.row; col = c.self.inside.col } in
    let line : List ℕ = search_text c.args.direction c.args.failing ++ c.args.pattern.now in
    let within : c.args.row < c.self.inside.rows = omega (arith, c.requires.row, ap (λ (p : Picture). p.rows) c.self.view_is) in
    let wide : length c.index_mut.result.now.text ≡ c.self.inside.cols = row_width old c.args.row c.index_mut.result.now c.self.invariant within c.index_mut.ensures.value in
    let is : c.draw_search.new.self ≡ line_row c.self.inside.cols line = c.draw_search.ensures.row ∙ ap (λ (k : ℕ). line_row k line) wide in
    let good : IsRow c.self.inside.cols c.draw_search.new.self = rw is (line_is c.self.inside.cols line (omega (arith, c.self.invariant.size.some_cols))) in
    set_picture old c.args.row c.draw_search.new.self c.self.invariant good

pub returns-clause-grid : goal.returns-clause-grid
returns-clause-grid c =
    let old : Picture = record { rows = c.self.inside.rows; cols = c.self.inside.cols; lines = c.self.inside.lines.items; row = c.self.inside.row; col = c.self.inside.col } in
    let line : List ℕ = search_text c.args.direction c.args.failing ++ c.args.pattern.now in
    let within : c.args.row < c.self.inside.rows = omega (arith, c.requires.row, ap (λ (p : Picture). p.rows) c.self.view_is) in
    let wide : length c.index_mut.result.now.text ≡ c.self.inside.cols = row_width old c.args.row c.index_mut.result.now c.self.invariant within c.index_mut.ensures.value in
    let is : c.draw_search.new.self ≡ line_row c.self.inside.cols line = c.draw_search.ensures.row ∙ ap (λ (k : ℕ). line_row k line) wide in
    with_lines old c.args.self.now (λ (p : Picture). rows_put c.args.row (line_row p.cols line ∷ []) p.lines) _ c.self.view_is (set_put c.self.inside.lines.items c.args.row (line_row c.self.inside.cols line) c.draw_search.new.self (omega (arith, within, c.self.invariant.count)) is)

pub returns-clause-within : goal.returns-clause-within
returns-clause-within c =
    let old : Picture = record { rows = c.self.inside.rows; cols = c.self.inside.cols; lines = c.self.inside.lines.items; row = c.self.inside.row; col = c.self.inside.col } in
    let line : List ℕ = search_text c.args.direction c.args.failing ++ c.args.pattern.now in
    let within : c.args.row < c.self.inside.rows = omega (arith, c.requires.row, ap (λ (p : Picture). p.rows) c.self.view_is) in
    let wide : length c.index_mut.result.now.text ≡ c.self.inside.cols = row_width old c.args.row c.index_mut.result.now c.self.invariant within c.index_mut.ensures.value in
    let cols : c.self.inside.cols ≡ c.args.self.now.cols = ap (λ (p : Picture). p.cols) c.self.view_is in
    let some : 2 ≤ c.self.inside.cols = omega (arith, c.self.invariant.size.some_cols) in
    let at : c.draw_search.result ≡ line_end_column c.self.inside.cols line = c.draw_search.ensures.column ∙ ap (λ (k : ℕ). line_end_column k line) wide in
    omega (arith, at, cols, some, length-line_shown c.self.inside.cols (cells line) some)
