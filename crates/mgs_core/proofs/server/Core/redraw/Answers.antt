use Rattle.std.proofs.Common.{◌∙◌, ap, refl}
use Rattle.mgs_model.specs.World.{World, find_session}
use Rattle.mgs_model.specs.Draw.{screen}
use Rattle.mgs_world.specs.Worlds.{find_size}
use Rattle.mgs_core.proofs.Kept.{sizes_kept, world_is}
use Rattle.mgs_core.proofs.server.Core.redraw.Goals as goal

pub redraw_in-requires-clause-open : goal.redraw_in-requires-clause-open
redraw_in-requires-clause-open g c = ap (find_size c.args.id) (sizes_kept c.self.inside.world c.self.inside.next_id _ _ c.self.view_is refl) ∙ c.requires.open

pub returns-clause-grid : goal.returns-clause-grid
returns-clause-grid g c x found =
    let e = world_is _ _ c.self.view_is in
    c.redraw_in.ensures.grid c.self.inside.next_id x (ap (λ (w : World). find_session c.args.id w.sessions) e ∙ found) ∙ ap (λ (w : World). screen w x) e
