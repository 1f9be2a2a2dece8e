use Rattle.std.proofs.Common.{ap, ◌∙◌}
use Rattle.mgs_buffers.specs.MarkedBuffer.{marked_unmodified}
use Rattle.mgs_buffers.proofs.buffer.Buffer.save_as.Goals as goal

pub returns-clause-ok : goal.returns-clause-ok
returns-clause-ok g c = λ name. c.unmodify.ensures name ∙ ap marked_unmodified (c.ask_store.ensures.same name)
