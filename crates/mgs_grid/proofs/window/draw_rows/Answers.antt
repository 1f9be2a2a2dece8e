use Rattle.std.proofs.Common.{◌≡◌, ℕ, ◌+◌, ◌<◌, ◌≤◌, List, length, get_or, drop, arith, ap, ◌∙◌, refl, eq-eqb}
use Rattle.std.specs.List.{after_first}
use Rattle.std.proofs.lemmas.Bool.{ne_eqb}
use Rattle.std.proofs.lemmas.List.Elements.{All-set}
use Rattle.mgs_model.specs.Lines.{is_feed}
use Rattle.mgs_model.specs.Rows.{Row, shift_at}
use Rattle.mgs_grid.specs.Cells.{HasWidth}
use Rattle.mgs_grid.proofs.Fits.{length-shown}
use Rattle.mgs_grid.proofs.Rows.{row_at, rows_more, next_more, next_none}
use Rattle.mgs_grid.proofs.window.draw_rows.Goals as goal
use Rattle.mgs_grid.proofs.window.draw_rows.Goals.{then-i-shifted, else-i-shifted, then-end-len, else-end-len}

pub loop-i-preserved : goal.loop-i-preserved
loop-i-preserved g c =
    let xs : List ℕ = g.T.Text.text c.args.text.now in
    let cols : ℕ = c.args.cols in
    let i : ℕ = c.loop-i.i in
    let lines : List Row = c.loop-i.lines in
    let shift : ℕ → ℕ = shift_at c.args.shifted.row c.args.shifted.shift in
    let within : i < length lines = omega arith in
    let wide : length (get_or lines i c.index-lines-i.result).text ≡ cols = c.loop-i.invariant.each i c.index-lines-i.result within in
    let from : c.if-i-shifted.from ≡ shift i = elim c.if-i-shifted.branch [
      | then-i-shifted w ↦ w.from-is ∙ rw (eq-eqb i c.args.shifted.row w.if-i-shifted.true) refl
      | else-i-shifted w ↦ w.from-is ∙ rw (ne_eqb i c.args.shifted.row w.if-i-shifted.false) refl
    ] in
    let new : c.draw_text-end.new.self ≡ row_at cols (shift i) xs c.loop-i.start = c.draw_text-end.ensures.row ∙ rw (wide, from) refl in
    let on : drop c.if-end-len.start xs ≡ after_first is_feed (drop c.loop-i.start xs) = elim c.if-end-len.branch [
      | then-end-len w ↦ next_more xs c.loop-i.start c.if-end-len.start (w.start-is ∙ ap (λ k. k + 1) c.draw_text-end.ensures.end)
      | else-end-len w ↦ next_none xs c.loop-i.start c.if-end-len.start (w.start-is ∙ c.draw_text-end.ensures.end) (omega arith)
    ] in
    let start : c.if-end-len.start ≤ length xs = elim c.if-end-len.branch [ then-end-len w ↦ omega arith | else-end-len w ↦ omega arith ] in
    record {
      start = start;
      each = All-set (HasWidth cols) lines i c.draw_text-end.new.self (ap (λ (r : Row). length r.text) new ∙ length-shown cols (shift i) _ (omega arith)) c.loop-i.invariant.each;
      rows = rows_more cols shift i c.loop-i.start c.if-end-len.start lines xs c.draw_text-end.new.self within new on ∙ c.loop-i.invariant.rows;
    }
