use Rattle.std.proofs.Common.{◌≡◌, ℕ, ◌-◌, List, length, arith, ap, ◌∙◌, false}
use Rattle.mgs_model.specs.Cells.{cells}
use Rattle.mgs_model.specs.Prompts.{prompt_line}
use Rattle.std.proofs.lemmas.List.{with_items_is}
use Rattle.mgs_model.specs.Rows.{Row, shown_row, fitted, line_shown}
use Rattle.mgs_grid.proofs.Fits.{drawn_shown}
use Rattle.mgs_grid.proofs.Ends.{shown_to_end, length-line_shown}
use Rattle.mgs_grid.proofs.screen_row.Line.draw_prompt.Goals as goal

pub returns-clause-row : goal.returns-clause-row
returns-clause-row c =
    let cols : ℕ = length c.args.self.now.text in
    let xs : List ℕ = cells (prompt_line c.args.question c.args.input.now) in
    let shift : ℕ = c.shift_to_end-shift.result in
    let wide : length c.as_mut_slice-row.result.now ≡ cols = ap length c.as_mut_slice-row.ensures.value ∙ ap (λ (r : Row). length r.text) c.self.view_is in
    let from : shift ≡ length xs - (cols - 1) = omega (arith, c.shift_to_end-shift.ensures, c.prompt_width.ensures.width, wide, ap length c.fill.ensures) in
    let cut : c.finish.new.row ≡ shown_row cols shift xs = drawn_shown cols shift _ xs _ _ _ _ (omega arith) wide c.fill.ensures c.put_prompt-end.ensures.row c.put_prompt-end.ensures.next c.finish.ensures in
    let whole : c.finish.new.row ≡ fitted 32 cols (line_shown cols xs) = cut ∙ ap (λ (k : ℕ). shown_row cols k xs) from ∙ shown_to_end cols xs (omega (arith, c.requires.some)) in
    ap (λ (k : List ℕ). let r : Row = record { text = k; reversed = false } in r) (with_items_is c.self.inside.text c.finish.new.row (omega arith) ∙ whole)

pub returns-clause-column : goal.returns-clause-column
returns-clause-column c =
    let cols : ℕ = length c.args.self.now.text in
    let xs : List ℕ = cells (prompt_line c.args.question c.args.input.now) in
    let wide : length c.as_mut_slice-row.result.now ≡ cols = ap length c.as_mut_slice-row.ensures.value ∙ ap (λ (r : Row). length r.text) c.self.view_is in
    let from : c.shift_to_end-shift.result ≡ length xs - (cols - 1) = omega (arith, c.shift_to_end-shift.ensures, c.prompt_width.ensures.width, wide, ap length c.fill.ensures) in
    omega (arith, from, c.put_prompt-end.ensures.next, length-line_shown cols xs (omega (arith, c.requires.some)))
