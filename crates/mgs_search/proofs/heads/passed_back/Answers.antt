use Rattle.std.proofs.Common.{◌≡◌, ◌-◌, ℕ, List, get_or, ap, arith, ◌∙◌}
use Rattle.mgs_search.proofs.Borders.{others_back}
use Rattle.mgs_search.proofs.heads.passed_back.Goals as goal

pub loop-left-preserved : goal.loop-left-preserved
loop-left-preserved g c =
    let xs : List ℕ = g.T.Text.text c.args.text.now in
    let end : ℕ = c.args.end in
    let left : ℕ = c.loop-left.left in
    let place : left - 1 ≡ end - 1 - (end - left) = omega arith in
    record {
      within = omega arith;
      none = λ t below. others_back c.args.first xs end (end - left) c.at.result (c.at.ensures ∙ ap (λ (k : ℕ). get_or xs k 0) place) (c.is_other.ensures c.if-not-is_other.false) c.loop-left.invariant.none t (omega arith);
    }
