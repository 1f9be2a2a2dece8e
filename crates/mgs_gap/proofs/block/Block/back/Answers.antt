use Rattle.std.proofs.Common.{sym, ap, ◌∙◌}
use Rattle.mgs_gap.specs.Gapped.{Gapped}
use Rattle.mgs_gap.specs.Blocks.{back_in}
use Rattle.mgs_gap.proofs.Blocks.{same_run, back_run}
use Rattle.mgs_gap.proofs.block.Block.back.Goals as goal

pub returns : goal.returns
returns c =
    same_run c.slice.result.now (back_in c.self.inside) (sym c.slice.ensures ∙ back_run c.self.inside c.self.invariant) ∙ ap (λ (v : Gapped). v.back) c.self.view_is
