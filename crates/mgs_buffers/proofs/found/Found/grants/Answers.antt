use Rattle.std.proofs.Common.{ap, ◌∙◌}
use Rattle.mgs_model.specs.World.{may}
use Rattle.mgs_buffers.specs.MarkedBuffer.{MarkedBuffer}
use Rattle.mgs_buffers.proofs.found.Found.grants.Goals as goal

pub returns : goal.returns
returns g c = c.grants.ensures c.args.self.now.name ∙ ap (λ (k : MarkedBuffer). may c.args.directory.now c.args.user.now c.args.right k.buffer) c.buffer.ensures
