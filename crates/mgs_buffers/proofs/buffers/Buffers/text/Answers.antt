use Rattle.std.proofs.Common.{ap, ◌∙◌}
use Rattle.mgs_buffers.specs.Found.{Named}
use Rattle.mgs_buffers.specs.MarkedBuffer.{marked_at}
use Rattle.mgs_buffers.proofs.buffers.Buffers.text.Goals as goal

pub returns-clause-text : goal.returns-clause-text
returns-clause-text g c = c.text.ensures.text ∙ ap (λ (f : Named). (marked_at f.name f.all).buffer.text) c.find.ensures

pub returns-clause-marks : goal.returns-clause-marks
returns-clause-marks g c = c.text.ensures.marks ∙ ap (λ (f : Named). (marked_at f.name f.all).marks) c.find.ensures
