use Rattle.std.proofs.Common.{ℕ, List, ◌≡◌, length, get_or, arith, ap, sym, ◌∙◌}
use Rattle.mgs_model.specs.Cells.{glyph}
use Rattle.mgs_lines.proofs.Feeds.{fitting_more, fitting_over}
use Rattle.mgs_lines.proofs.Fits.{reach_plain}
use Rattle.mgs_lines.proofs.vertical.column_place.Goals as goal

pub returns-then-column-goal-clause-value : goal.returns-then-column-goal-clause-value
returns-then-column-goal-clause-value g c =
    let xs : List ℕ = g.T.Text.text c.args.text.now in
    let other : get_or xs c.loop-i.i 0 ≡ 10 → ⊥ = λ e. c.if-c-eq10.false (c.at-c.ensures ∙ e) in
    let wide : c.width-column.result ≡ length (glyph c.loop-i.column (get_or xs c.loop-i.i 0)) = c.width-column.ensures.value ∙ ap (λ k. length (glyph c.loop-i.column k)) c.at-c.ensures in
    let none = fitting_over xs c.args.goal c.loop-i.column c.loop-i.i c.width-column.result (omega arith) other wide (omega arith) in
    omega (arith, none, c.loop-i.invariant.same)

pub loop-i-preserved-then-plain-gt0 : goal.loop-i-preserved-then-plain-gt0
loop-i-preserved-then-plain-gt0 g c =
    let xs : List ℕ = g.T.Text.text c.args.text.now in
    let plain : ℕ = c.plain_from-plain.result in
    let passed = reach_plain plain xs c.args.goal c.loop-i.column c.loop-i.i c.plain_from-plain.ensures.within c.plain_from-plain.ensures.plain (omega arith) in
    record { from = omega arith; within = omega arith; fits = omega arith; few = omega arith; same = sym passed ∙ c.loop-i.invariant.same }

pub loop-i-preserved : goal.loop-i-preserved
loop-i-preserved g c =
    let xs : List ℕ = g.T.Text.text c.args.text.now in
    let other : get_or xs c.loop-i.i 0 ≡ 10 → ⊥ = λ e. c.if-c-eq10.false (c.at-c.ensures ∙ e) in
    let wide : c.width-column.result ≡ length (glyph c.loop-i.column (get_or xs c.loop-i.i 0)) = c.width-column.ensures.value ∙ ap (λ k. length (glyph c.loop-i.column k)) c.at-c.ensures in
    let next = fitting_more xs c.args.goal c.loop-i.column c.loop-i.i c.width-column.result (omega arith) other wide (omega arith) in
    record { from = omega arith; within = omega arith; fits = omega arith; few = omega arith; same = sym next ∙ c.loop-i.invariant.same }
