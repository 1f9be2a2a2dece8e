use Rattle.std.proofs.Common.{find, ap, ◌∙◌}
use Rattle.mgs_undo.specs.History.{has_serial}
use Rattle.mgs_buffers.specs.Found.{Named}
use Rattle.mgs_buffers.specs.MarkedBuffer.{marked_at}
use Rattle.mgs_buffers.proofs.buffers.Buffers.item.Goals as goal

pub returns : goal.returns
returns g c = c.item.ensures ∙ ap (λ (f : Named). find (has_serial c.args.serial) (marked_at f.name f.all).buffer.items) c.find.ensures
