use Rattle.std.proofs.Common.{Some, sym, ap, ◌∙◌}
use Rattle.mgs_model.specs.Picture.{Picture}
use Rattle.mgs_world.specs.declared.size.Size.{Size}
use Rattle.mgs_world.specs.Worlds.{sizes}
use Rattle.mgs_engine.proofs.Repaints.{told_known}
use Rattle.mgs_engine_tests.proofs.lockstep.drawn.Goals as goal

pub draw-requires : goal.draw-requires
draw-requires c =
    let z = c.in-Some.size in
    told_known (sizes c.args.core.now.world) c.args.at z c.size.ensures.unique (sym c.size.ensures.value ∙ c.in-Some.is)
    ∙ ap (λ (p : Picture). Some (let y : Size = record { id = z.id; rows = p.rows; cols = p.cols } in y)) (sym c.in-Ok.ensures)
