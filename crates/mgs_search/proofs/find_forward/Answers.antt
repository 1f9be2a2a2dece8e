use Rattle.std.proofs.Common.{ℕ, List, length, arith, sym, ◌∙◌}
use Rattle.std.proofs.lemmas.Bool.{eqb-true}
use Rattle.mgs_model.specs.Searching.{first_match}
use Rattle.std.proofs.Math.Path.{subst}
use Rattle.mgs_search.specs.Borders.{IsHead}
use Rattle.mgs_search.proofs.Matching.{first_empty, first_here, first_passed}
use Rattle.mgs_search.proofs.find_forward.Goals as goal

pub returns-then-is_empty-clause-value : goal.returns-then-is_empty-clause-value
returns-then-is_empty-clause-value g c =
    let none = eqb-true (length c.args.pattern.now) 0 (sym c.is_empty.ensures ∙ c.if-is_empty.true) in
    sym (first_empty c.args.pattern.now (g.T.Text.text c.args.text.now) c.args.from none)

pub loop-p-preserved : goal.loop-p-preserved
loop-p-preserved g c =
    let pattern = c.args.pattern.now in
    let xs : List ℕ = g.T.Text.text c.args.text.now in
    record {
      within = c.next_headed-p-in-loop-p.ensures.within;
      same = first_passed pattern xs c.loop-p.p c.next_headed-p-in-loop-p.result (first_match pattern xs c.args.from) (omega arith) (sym c.matches_at.ensures.value ∙ c.if-matches_at.false) (c.next_headed-p-in-loop-p.ensures.value pattern (subst (IsHead pattern) (sym c.as_slice-in-loop-p.ensures.value) c.head_of-head.ensures.head)) c.loop-p.invariant.same;
    }

pub returns-then-matches_at-clause-value : goal.returns-then-matches_at-clause-value
returns-then-matches_at-clause-value g c =
    let xs : List ℕ = g.T.Text.text c.args.text.now in
    sym (first_here c.args.pattern.now xs c.loop-p.p (sym c.matches_at.ensures.value ∙ c.if-matches_at.true)) ∙ c.loop-p.invariant.same
