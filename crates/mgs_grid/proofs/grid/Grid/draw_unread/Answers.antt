use Rattle.std.proofs.Common.{◌≡◌, ℕ, ◌<◌, ◌≤◌, List, length, set, arith, refl, sym, ap, ◌∙◌}
use Rattle.mgs_model.specs.Rows.{Row, plain_row, blank_rows, unread_text}
use Rattle.mgs_grid.specs.Cells.{rows_put}
use Rattle.mgs_model.specs.Picture.{Picture, IsRow}
use Rattle.mgs_grid.proofs.Pictures.{set_picture, row_width, with_lines, plain_is, put_within, length-blank_rows, refused}
use Rattle.mgs_grid.proofs.grid.Grid.draw_unread.Goals as goal

pub invariant_of-self : goal.invariant_of-self
invariant_of-self c =
    let q : Picture = c.args.self.now in
    let old : Picture = record { rows = c.self.inside.rows; cols = c.self.inside.cols; lines = c.self.inside.lines.items; row = c.self.inside.row; col = c.self.inside.col } in
    let cols : ℕ = c.self.inside.cols in
    let blank : Picture = record q { lines = rows_put c.args.first (blank_rows q.cols c.args.height) q.lines } in
    let same : old ≡ blank = c.self.view_is ∙ c.draw_blank.ensures in
    let within : c.args.first < c.self.inside.rows = omega (arith, ap (λ (p : Picture). p.rows) same, c.requires.rows, c.requires.height) in
    let wide : length c.index_mut.result.now.text ≡ cols = row_width old c.args.first c.index_mut.result.now c.self.invariant within c.index_mut.ensures.value in
    let is : c.draw_unread.new.self ≡ plain_row cols (unread_text c.args.decision) = c.draw_unread.ensures.row ∙ ap (λ (k : ℕ). plain_row k (unread_text c.args.decision)) wide in
    let good : IsRow cols c.draw_unread.new.self = rw is (plain_is cols (unread_text c.args.decision) (omega (arith, c.self.invariant.size.some_cols)) c.draw_unread.ensures.printable) in
    set_picture old c.args.first c.draw_unread.new.self c.self.invariant good

pub returns : goal.returns
returns c =
    let q : Picture = c.args.self.now in
    let old : Picture = record { rows = c.self.inside.rows; cols = c.self.inside.cols; lines = c.self.inside.lines.items; row = c.self.inside.row; col = c.self.inside.col } in
    let cols : ℕ = c.self.inside.cols in
    let blank : Picture = record q { lines = rows_put c.args.first (blank_rows q.cols c.args.height) q.lines } in
    let same : old ≡ blank = c.self.view_is ∙ c.draw_blank.ensures in
    let within : c.args.first < c.self.inside.rows = omega (arith, ap (λ (p : Picture). p.rows) same, c.requires.rows, c.requires.height) in
    let wide : length c.index_mut.result.now.text ≡ cols = row_width old c.args.first c.index_mut.result.now c.self.invariant within c.index_mut.ensures.value in
    let is : c.draw_unread.new.self ≡ plain_row cols (unread_text c.args.decision) = c.draw_unread.ensures.row ∙ ap (λ (k : ℕ). plain_row k (unread_text c.args.decision)) wide in
    let drawn : Picture → List Row = λ (p : Picture). set p.lines c.args.first (plain_row p.cols (unread_text c.args.decision)) in
    let first : (record old { lines = set c.self.inside.lines.items c.args.first c.draw_unread.new.self }) ≡ (record blank { lines = drawn blank }) = with_lines old blank drawn _ same (ap (λ (r : Row). set c.self.inside.lines.items c.args.first r) is) in
    let all : length blank.lines ≡ q.rows = ap (λ (p : Picture). length p.lines) (sym same) ∙ c.self.invariant.count ∙ ap (λ (p : Picture). p.rows) same in
    let begins : c.args.first ≤ length q.lines = put_within c.args.first c.args.height q.rows (blank_rows q.cols c.args.height) q.lines (length-blank_rows q.cols c.args.height) c.requires.rows all in
    first ∙ ap (λ (k : List Row). record q { lines = k }) (refused q.cols c.args.first c.args.height c.args.decision q.lines (plain_row q.cols (unread_text c.args.decision)) c.requires.height begins refl)
