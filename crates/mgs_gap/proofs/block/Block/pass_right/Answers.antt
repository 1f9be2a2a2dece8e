use Rattle.std.proofs.Common.{◌≤◌, ◌++◌, refl, take, drop, length, sym, ap, ◌∙◌, subst, arith}
use Rattle.mgs_gap.specs.Gapped.{Gapped, gapped}
use Rattle.mgs_gap.proofs.Blocks.{right_shows, run_of_back, back_long}
use Rattle.mgs_gap.proofs.block.Block.pass_right.Goals as goal

pub lower-requires-clause-run : goal.lower-requires-clause-run
lower-requires-clause-run c =
    let less = subst (λ (v : Gapped). c.args.n ≤ length v.back) (sym c.self.view_is) c.requires in
    run_of_back c.self.inside c.self.invariant c.self.inside.cells refl c.args.n (omega (arith, less, back_long c.self.inside c.self.invariant))

pub invariant_of-self : goal.invariant_of-self
invariant_of-self c =
    let less = subst (λ (v : Gapped). c.args.n ≤ length v.back) (sym c.self.view_is) c.requires in
    (right_shows c.self.inside c.self.invariant c.lower.new.self c.lower.ensures.at c.args.n (omega (arith, less, back_long c.self.inside c.self.invariant)) c.lower.ensures.slots).0

pub returns : goal.returns
returns c =
    let less = subst (λ (v : Gapped). c.args.n ≤ length v.back) (sym c.self.view_is) c.requires in
    (right_shows c.self.inside c.self.invariant c.lower.new.self c.lower.ensures.at c.args.n (omega (arith, less, back_long c.self.inside c.self.invariant)) c.lower.ensures.slots).1
    ∙ ap (λ (v : Gapped). gapped (v.front ++ take c.args.n v.back) v.gap (drop c.args.n v.back)) c.self.view_is
