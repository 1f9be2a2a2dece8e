use Rattle.std.proofs.Common.{ℕ, List, ◌-◌, ◌+◌, arith, sym, ap, ◌∙◌}
use Rattle.mgs_model.specs.Walks.{backward_word, backward_words}
use Rattle.mgs_lines.proofs.Steps.{iterate_next, iterate_still, backward_word-start}
use Rattle.mgs_lines.proofs.words.backward_word.Goals as goal

pub loop-i-preserved : goal.loop-i-preserved
loop-i-preserved g c =
    let xs : List ℕ = g.T.Text.text c.args.text.now in
    let next = ap (λ x. backward_words xs x (c.args.times - (c.loop-i.i + 1))) c.word_start-at.ensures.value in
    record {
      within = omega arith;
      same = next ∙ (sym (iterate_next (backward_word xs) c.args.times c.loop-i.i c.loop-i.at c.loop-i-test.true) ∙ c.loop-i.invariant.same);
    }

pub returns-then-at-eq0-clause-value : goal.returns-then-at-eq0-clause-value
returns-then-at-eq0-clause-value g c =
    let xs : List ℕ = g.T.Text.text c.args.text.now in
    sym (iterate_still (backward_word xs) (c.args.times - c.loop-i.i) c.loop-i.at (backward_word-start xs c.loop-i.at c.if-at-eq0.true)) ∙ c.loop-i.invariant.same
