use Rattle.std.proofs.Common.{◌≤◌, ◌++◌, refl, take, drop, length, sym, ap, ◌∙◌, subst, arith}
use Rattle.mgs_gap.specs.Gapped.{Gapped, gapped}
use Rattle.mgs_gap.proofs.Blocks.{left_shows, run_of_front, front_long}
use Rattle.mgs_gap.proofs.block.Block.pass_left.Goals as goal

pub raise-requires-clause-run : goal.raise-requires-clause-run
raise-requires-clause-run c =
    let less = subst (λ (v : Gapped). c.args.a ≤ length v.front) (sym c.self.view_is) c.requires in
    run_of_front c.self.inside c.self.invariant c.self.inside.cells refl c.args.a (omega (arith, less, front_long c.self.inside c.self.invariant))

pub invariant_of-self : goal.invariant_of-self
invariant_of-self c =
    let less = subst (λ (v : Gapped). c.args.a ≤ length v.front) (sym c.self.view_is) c.requires in
    (left_shows c.self.inside c.self.invariant c.raise.new.self c.raise.ensures.at c.args.a (omega (arith, less, front_long c.self.inside c.self.invariant)) c.raise.ensures.slots).0

pub returns : goal.returns
returns c =
    let less = subst (λ (v : Gapped). c.args.a ≤ length v.front) (sym c.self.view_is) c.requires in
    (left_shows c.self.inside c.self.invariant c.raise.new.self c.raise.ensures.at c.args.a (omega (arith, less, front_long c.self.inside c.self.invariant)) c.raise.ensures.slots).1
    ∙ ap (λ (v : Gapped). gapped (take c.args.a v.front) v.gap (drop c.args.a v.front ++ v.back)) c.self.view_is
