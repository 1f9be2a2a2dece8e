use Rattle.std.proofs.Common.{◌∙◌, ap}
use Rattle.mgs_core.specs.Counts.{marks_of}
use Rattle.mgs_core.proofs.Counts.{sound_count}
use Rattle.mgs_core.proofs.Kept.{world_is}
use Rattle.mgs_core.proofs.server.Core.mark_count.Goals as goal

pub returns : goal.returns
returns g c =
    let held = c.self.inside in
    c.mark_count.ensures
    ∙ sound_count c.args.name.now held.world.directory held.world.buffers held.world.sessions.items held.next_id c.self.invariant.0.sound
    ∙ ap (marks_of c.args.name.now) (world_is _ _ c.self.view_is)
