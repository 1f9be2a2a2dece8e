use Rattle.std.proofs.Common.{◌≡◌, ℕ, ◌++◌, length, arith, ap, ◌∙◌, false, List}
use Rattle.std.specs.Prelude.{codes}
use Rattle.mgs_model.specs.Rows.{cause_text}
use Rattle.std.proofs.lemmas.List.{with_items_is}
use Rattle.mgs_model.specs.Rows.{Row, fitted}
use Rattle.mgs_grid.proofs.Fits.{drawn_whole}
use Rattle.mgs_grid.proofs.screen_row.Line.draw_unlisted.Goals as goal

pub returns-clause-row : goal.returns-clause-row
returns-clause-row c =
    let words : List ℕ = codes "[no acl: " ++ cause_text c.args.decision ++ codes "]" in
    let wide : length c.as_mut_slice-row.result.now ≡ length c.args.self.now.text = ap length c.as_mut_slice-row.ensures.value ∙ ap (λ (r : Row). length r.text) c.self.view_is in
    let text : c.finish.new.row ≡ fitted 32 (length c.args.self.now.text) words = drawn_whole 32 (length c.args.self.now.text) _ words _ _ _ _ (omega arith) wide c.fill.ensures c.put_unlisted-end.ensures c.finish.ensures in
    ap (λ (k : List ℕ). let r : Row = record { text = k; reversed = false } in r) (with_items_is c.self.inside.text c.finish.new.row (omega arith) ∙ text)
