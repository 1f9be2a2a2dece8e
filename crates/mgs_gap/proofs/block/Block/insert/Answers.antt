use Rattle.std.proofs.Common.{◌-◌, ◌≤◌, ◌++◌, length, sym, ap, ◌∙◌, subst}
use Rattle.mgs_gap.specs.Gapped.{Gapped, gapped}
use Rattle.mgs_gap.proofs.Blocks.{put_shows}
use Rattle.mgs_gap.proofs.block.Block.insert.Goals as goal

pub invariant_of-self : goal.invariant_of-self
invariant_of-self c =
    let fits = subst (λ (v : Gapped). length c.args.put.now ≤ v.gap) (sym c.self.view_is) c.requires in
    (put_shows c.self.inside c.self.invariant c.fill.new.self c.args.put.now c.fill.ensures.at c.fill.ensures.slots fits).0

pub returns : goal.returns
returns c =
    let fits = subst (λ (v : Gapped). length c.args.put.now ≤ v.gap) (sym c.self.view_is) c.requires in
    (put_shows c.self.inside c.self.invariant c.fill.new.self c.args.put.now c.fill.ensures.at c.fill.ensures.slots fits).1
    ∙ ap (λ (v : Gapped). gapped (v.front ++ c.args.put.now) (v.gap - length c.args.put.now) v.back) c.self.view_is
