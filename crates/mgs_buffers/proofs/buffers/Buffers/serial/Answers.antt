use Rattle.std.proofs.Common.{ap, ◌∙◌}
use Rattle.mgs_buffers.specs.Found.{Named}
use Rattle.mgs_buffers.specs.MarkedBuffer.{marked_at}
use Rattle.mgs_buffers.proofs.buffers.Buffers.serial.Goals as goal

pub returns : goal.returns
returns g c = c.serial.ensures ∙ ap (λ (f : Named). (marked_at f.name f.all).buffer.serial) c.find.ensures
