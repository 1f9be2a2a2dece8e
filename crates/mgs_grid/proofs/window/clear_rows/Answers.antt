use Rattle.std.proofs.Common.{◌≡◌, ℕ, ◌<◌, ◌++◌, List, [], ◌∷◌, length, get_or, arith, sym, ap, ◌∙◌}
use Rattle.std.proofs.lemmas.List.{take_more_set, replicate_more}
use Rattle.std.proofs.lemmas.List.Elements.{All-set}
use Rattle.mgs_model.specs.Rows.{Row, plain_row, blank_rows}
use Rattle.mgs_grid.specs.Cells.{HasWidth}
use Rattle.mgs_grid.proofs.Fits.{blank_row}
use Rattle.mgs_grid.proofs.Pictures.{blank_width}
use Rattle.mgs_grid.proofs.window.clear_rows.Goals as goal

pub loop-line-preserved : goal.loop-line-preserved
loop-line-preserved c =
    let cols : ℕ = c.args.cols in
    let i : ℕ = c.loop-line.line-index in
    let lines : List Row = c.loop-line.lines in
    let within : i < length lines = omega arith in
    let wide : length (get_or lines i c.line-item.result).text ≡ cols = c.loop-line.invariant.each i c.line-item.result within in
    let new : c.draw_blank.new.self ≡ plain_row cols [] = c.draw_blank.ensures ∙ sym (blank_row (length (get_or lines i c.line-item.result).text)) ∙ ap (λ (n : ℕ). plain_row n []) wide in
    record {
      each = All-set (HasWidth cols) lines i c.draw_blank.new.self (ap (λ (r : Row). length r.text) new ∙ blank_width cols) c.loop-line.invariant.each;
      rows = take_more_set lines i c.draw_blank.new.self within ∙ ap (λ (t : List Row). t ++ c.draw_blank.new.self ∷ []) c.loop-line.invariant.rows ∙ ap (λ (r : Row). blank_rows cols i ++ r ∷ []) new ∙ replicate_more i (plain_row cols []);
    }
