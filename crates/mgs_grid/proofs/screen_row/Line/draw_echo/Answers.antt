use Rattle.std.proofs.Common.{◌≡◌, ℕ, length, arith, ap, ◌∙◌, false, List}
use Rattle.mgs_model.specs.Messages.{message_text}
use Rattle.std.proofs.lemmas.List.{with_items_is}
use Rattle.mgs_model.specs.Rows.{Row, fitted}
use Rattle.mgs_grid.proofs.Fits.{drawn_whole}
use Rattle.mgs_grid.proofs.screen_row.Line.draw_echo.Goals as goal

pub returns-clause-row : goal.returns-clause-row
returns-clause-row c =
    let wide : length c.as_mut_slice-row.result.now ≡ length c.args.self.now.text = ap length c.as_mut_slice-row.ensures.value ∙ ap (λ (r : Row). length r.text) c.self.view_is in
    let text : c.finish.new.row ≡ fitted 32 (length c.args.self.now.text) (message_text c.args.message.now) = drawn_whole 32 (length c.args.self.now.text) _ (message_text c.args.message.now) _ _ _ _ (omega arith) wide c.fill.ensures c.put_message-end.ensures.wrote c.finish.ensures in
    ap (λ (k : List ℕ). let r : Row = record { text = k; reversed = false } in r) (with_items_is c.self.inside.text c.finish.new.row (omega arith) ∙ text)
