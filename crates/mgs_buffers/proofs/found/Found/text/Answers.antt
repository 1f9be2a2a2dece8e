use Rattle.std.proofs.Common.{ap, length, arith, subst}
use Rattle.mgs_buffers.specs.Found.{Named}
use Rattle.mgs_buffers.specs.MarkedBuffer.{MarkedBuffer, AreWithinLimit}
use Rattle.mgs_buffers.proofs.Limits.{limit-at}
use Rattle.mgs_buffers.proofs.found.Found.text.Goals as goal

pub returns-clause-limit : goal.returns-clause-limit
returns-clause-limit g c =
    omega (arith, limit-at c.args.self.now.name c.args.self.now.all (subst (λ (f : Named). AreWithinLimit f.all) c.self.view_is c.len.ensures.limits), ap (λ (k : MarkedBuffer). length k.buffer.text) c.buffer.ensures, ap (λ t. length (g.T.Text.text t)) c.text.ensures)
