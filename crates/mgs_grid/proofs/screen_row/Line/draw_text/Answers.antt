use Rattle.std.proofs.Common.{◌≡◌, ℕ, ◌+◌, ◌<◌, List, length, arith, ap, ◌∙◌, false}
use Rattle.std.specs.Prelude.{slice_range}
use Rattle.mgs_model.specs.Cells.{cells}
use Rattle.mgs_model.specs.Lines.{line_end}
use Rattle.std.proofs.lemmas.List.{with_items_is}
use Rattle.mgs_model.specs.Rows.{Row, shown_row}
use Rattle.mgs_grid.proofs.Fits.{drawn_shown}
use Rattle.mgs_grid.proofs.Cuts.{range_cut}
use Rattle.mgs_grid.proofs.screen_row.Line.draw_text.Goals as goal

pub returns-clause-row : goal.returns-clause-row
returns-clause-row g c =
    let xs : List ℕ = g.T.Text.text c.args.text.now in
    let cols : ℕ = length c.args.self.now.text in
    let wide : length c.as_mut_slice-row.result.now ≡ cols = ap length c.as_mut_slice-row.ensures.value ∙ ap (λ (r : Row). length r.text) c.self.view_is in
    let end : c.line_end-end.result ≡ line_end xs c.args.start = c.line_end-end.ensures.value in
    let cut : c.finish.new.row ≡ shown_row cols c.args.shift (cells (slice_range xs c.args.start c.seen_end-seen.result)) = drawn_shown cols c.args.shift _ _ _ _ _ _ (omega arith) wide c.fill.ensures c.put_line-column.ensures.row c.put_line-column.ensures.next c.finish.ensures in
    let far : c.seen_end-seen.result < c.line_end-end.result → c.args.start + (c.args.shift + cols) < c.seen_end-seen.result = λ h. omega (arith, c.seen_end-seen.ensures.far h, wide, ap length c.fill.ensures) in
    let text : c.finish.new.row ≡ shown_row cols c.args.shift (cells (slice_range xs c.args.start c.line_end-end.result)) = cut ∙ range_cut cols c.args.shift c.args.start c.seen_end-seen.result c.line_end-end.result xs (omega arith) (omega arith) (omega arith) far (omega arith) in
    let whole : c.finish.new.row ≡ shown_row cols c.args.shift (cells (slice_range xs c.args.start (line_end xs c.args.start))) = text ∙ ap (λ (k : ℕ). shown_row cols c.args.shift (cells (slice_range xs c.args.start k))) end in
    ap (λ (k : List ℕ). let r : Row = record { text = k; reversed = false } in r) (with_items_is c.self.inside.text c.finish.new.row (omega arith) ∙ whole)
