use Rattle.std.proofs.Common.{ℕ, List, ◌-◌, ◌+◌, arith, sym, ap, ◌∙◌}
use Rattle.mgs_model.specs.Walks.{backward_paragraph, backward_paragraphs}
use Rattle.mgs_lines.proofs.Steps.{iterate_next, iterate_still}
use Rattle.mgs_lines.proofs.LinesByNumber.{backward_paragraph-start}
use Rattle.mgs_lines.proofs.paragraphs.backward_paragraph.Goals as goal

pub loop-i-preserved : goal.loop-i-preserved
loop-i-preserved g c =
    let xs : List ℕ = g.T.Text.text c.args.text.now in
    let next = ap (λ x. backward_paragraphs xs x (c.args.times - (c.loop-i.i + 1))) c.paragraph_start-at.ensures.value in
    record {
      within = omega arith;
      same = next ∙ (sym (iterate_next (backward_paragraph xs) c.args.times c.loop-i.i c.loop-i.at c.loop-i-test.true) ∙ c.loop-i.invariant.same);
    }

pub returns-then-at-eq0-clause-value : goal.returns-then-at-eq0-clause-value
returns-then-at-eq0-clause-value g c =
    let xs : List ℕ = g.T.Text.text c.args.text.now in
    sym (iterate_still (backward_paragraph xs) (c.args.times - c.loop-i.i) c.loop-i.at (backward_paragraph-start xs c.loop-i.at c.if-at-eq0.true)) ∙ c.loop-i.invariant.same
