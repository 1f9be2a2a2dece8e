use Rattle.std.proofs.Common.{sym, ap, ◌∙◌}
use Rattle.mgs_gap.specs.Gapped.{Gapped}
use Rattle.mgs_gap.specs.Blocks.{front_in}
use Rattle.mgs_gap.proofs.Blocks.{same_run}
use Rattle.mgs_gap.proofs.block.Block.front.Goals as goal

pub returns : goal.returns
returns c =
    same_run c.slice.result.now (front_in c.self.inside) (sym c.slice.ensures ∙ c.self.invariant.front) ∙ ap (λ (v : Gapped). v.front) c.self.view_is
