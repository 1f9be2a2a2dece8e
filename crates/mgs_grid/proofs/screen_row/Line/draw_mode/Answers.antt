use Rattle.std.proofs.Common.{◌≡◌, ℕ, length, arith, ap, ◌∙◌, true, List}
use Rattle.mgs_model.specs.Rows.{buffer_mode}
use Rattle.mgs_grid.proofs.CellLemmas.{wrote_more}
use Rattle.std.proofs.lemmas.List.{with_items_is}
use Rattle.mgs_model.specs.Rows.{Row, fitted}
use Rattle.mgs_grid.proofs.Fits.{drawn_whole}
use Rattle.mgs_grid.proofs.screen_row.Line.draw_mode.Goals as goal

pub returns-clause-row : goal.returns-clause-row
returns-clause-row c =
    let wide : length c.as_mut_slice-row.result.now ≡ length c.args.self.now.text = ap length c.as_mut_slice-row.ensures.value ∙ ap (λ (r : Row). length r.text) c.self.view_is in
    let text : c.finish.new.row ≡ fitted 45 (length c.args.self.now.text) (buffer_mode c.args.heading c.args.place) = drawn_whole 45 (length c.args.self.now.text) _ (buffer_mode c.args.heading c.args.place) _ _ _ _ (omega arith) wide c.fill.ensures (wrote_more c.put_heading-at.ensures.wrote c.put_place-end.ensures.wrote) c.finish.ensures in
    ap (λ (k : List ℕ). let r : Row = record { text = k; reversed = true } in r) (with_items_is c.self.inside.text c.finish.new.row (omega arith) ∙ text)
