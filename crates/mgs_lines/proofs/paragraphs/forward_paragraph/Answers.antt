use Rattle.std.proofs.Common.{ℕ, List, ◌-◌, ◌+◌, arith, sym, ap, ◌∙◌}
use Rattle.mgs_model.specs.Walks.{forward_paragraph, forward_paragraphs}
use Rattle.mgs_lines.proofs.Steps.{iterate_next, iterate_still}
use Rattle.mgs_lines.proofs.LinesByNumber.{forward_paragraph-end}
use Rattle.mgs_lines.proofs.paragraphs.forward_paragraph.Goals as goal

pub loop-i-preserved : goal.loop-i-preserved
loop-i-preserved g c =
    let xs : List ℕ = g.T.Text.text c.args.text.now in
    let next = ap (λ x. forward_paragraphs xs x (c.args.times - (c.loop-i.i + 1))) c.paragraph_end-at.ensures.value in
    record {
      within = c.paragraph_end-at.ensures.within;
      same = next ∙ (sym (iterate_next (forward_paragraph xs) c.args.times c.loop-i.i c.loop-i.at c.loop-i-test.true) ∙ c.loop-i.invariant.same);
    }

pub returns-then-at-len-clause-value : goal.returns-then-at-len-clause-value
returns-then-at-len-clause-value g c =
    let xs : List ℕ = g.T.Text.text c.args.text.now in
    sym (iterate_still (forward_paragraph xs) (c.args.times - c.loop-i.i) c.loop-i.at (forward_paragraph-end xs c.loop-i.at (omega arith))) ∙ c.loop-i.invariant.same
