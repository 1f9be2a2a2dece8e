use Rattle.std.proofs.Common.{◌≡◌, ℕ, length, arith, ap, ◌∙◌, true, List}
use Rattle.mgs_model.specs.Rows.{none_mode}
use Rattle.std.proofs.lemmas.List.{with_items_is}
use Rattle.mgs_model.specs.Rows.{Row, fitted}
use Rattle.mgs_grid.proofs.Fits.{drawn_whole}
use Rattle.mgs_grid.proofs.screen_row.Line.draw_none_mode.Goals as goal

pub returns : goal.returns
returns c =
    let wide : length c.as_mut_slice-row.result.now ≡ length c.args.self.now.text = ap length c.as_mut_slice-row.ensures.value ∙ ap (λ (r : Row). length r.text) c.self.view_is in
    let text : c.finish.new.row ≡ fitted 45 (length c.args.self.now.text) none_mode = drawn_whole 45 (length c.args.self.now.text) _ none_mode _ _ _ _ (omega arith) wide c.fill.ensures c.put_bytes-end.ensures.wrote c.finish.ensures in
    ap (λ (k : List ℕ). let r : Row = record { text = k; reversed = true } in r) (with_items_is c.self.inside.text c.finish.new.row (omega arith) ∙ text)
