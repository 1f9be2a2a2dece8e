use Rattle.std.proofs.Common.{ap, length, arith}
use Rattle.mgs_buffers.specs.MarkedBuffer.{MarkedBuffer}
use Rattle.mgs_buffers.proofs.Limits.{limit-at}
use Rattle.mgs_buffers.proofs.buffers.Buffers.text_len.Goals as goal

pub returns-clause-limit : goal.returns-clause-limit
returns-clause-limit g c =
    omega (arith, limit-at c.args.name.now c.args.self.now c.len.ensures.limits, ap (λ (k : MarkedBuffer). length k.buffer.text) c.buffer.ensures, ap (λ t. length (g.T.Text.text t)) c.text.ensures)
