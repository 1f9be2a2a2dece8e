use Rattle.std.proofs.Common.{◌+◌, ◌≤◌, drop, length, sym, ap, ◌∙◌, subst, arith}
use Rattle.mgs_gap.specs.Gapped.{Gapped, gapped}
use Rattle.mgs_gap.proofs.Blocks.{wider_shows, back_long}
use Rattle.mgs_gap.proofs.block.Block.delete.Goals as goal

pub invariant_of-self : goal.invariant_of-self
invariant_of-self c =
    let some = subst (λ (v : Gapped). c.args.n ≤ length v.back) (sym c.self.view_is) c.requires in
    (wider_shows c.self.inside c.self.invariant c.args.n (omega (arith, some, back_long c.self.inside c.self.invariant))).0

pub returns : goal.returns
returns c =
    let some = subst (λ (v : Gapped). c.args.n ≤ length v.back) (sym c.self.view_is) c.requires in
    (wider_shows c.self.inside c.self.invariant c.args.n (omega (arith, some, back_long c.self.inside c.self.invariant))).1
    ∙ ap (λ (v : Gapped). gapped v.front (v.gap + c.args.n) (drop c.args.n v.back)) c.self.view_is
