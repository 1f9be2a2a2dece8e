use Rattle.std.proofs.Common.{ℕ, List, length, arith, sym, ◌∙◌}
use Rattle.std.proofs.lemmas.Bool.{eqb-false}
use Rattle.mgs_model.specs.Searching.{last_match}
use Rattle.mgs_search.proofs.Matching.{last_from_end, last_passed, last_stands}
use Rattle.mgs_search.proofs.find_backward.Goals as goal

pub loop-left-init : goal.loop-left-init
loop-left-init g c =
    let pattern = c.args.pattern.now in
    let xs : List ℕ = g.T.Text.text c.args.text.now in
    record {
      within = omega arith;
      same = last_from_end pattern xs c.args.from c.min-end.result c.last_tailed-left.result (omega arith) (omega arith) (omega (arith, eqb-false (length pattern) 0 (sym c.is_empty.ensures ∙ c.if-is_empty.false))) c.last_tailed-left.ensures.value;
    }

pub returns-then-matches_at-clause-value : goal.returns-then-matches_at-clause-value
returns-then-matches_at-clause-value g c =
    let pattern = c.args.pattern.now in
    let xs : List ℕ = g.T.Text.text c.args.text.now in
    last_stands pattern xs c.loop-left.left (last_match pattern xs c.args.from) (omega arith) (sym c.matches_at.ensures.value ∙ c.if-matches_at.true) c.loop-left.invariant.same

pub loop-left-preserved : goal.loop-left-preserved
loop-left-preserved g c =
    let pattern = c.args.pattern.now in
    let xs : List ℕ = g.T.Text.text c.args.text.now in
    let passed = last_passed pattern xs c.loop-left.left (last_match pattern xs c.args.from) (omega arith) (sym c.matches_at.ensures.value ∙ c.if-matches_at.false) c.loop-left.invariant.same in
    record {
      within = omega arith;
      same = c.last_tailed-left-in-loop-left.ensures.value ∙ passed;
    }
