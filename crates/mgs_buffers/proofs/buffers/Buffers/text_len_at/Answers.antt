use Rattle.std.proofs.Common.{◌∙◌, ap, length, arith}
use Rattle.mgs_buffers.proofs.buffers.Buffers.text_len_at.Goals as goal

pub returns-clause-value : goal.returns-clause-value
returns-clause-value g c = c.len.ensures.value ∙ ap length c.text_at.ensures.text

pub returns-clause-limit : goal.returns-clause-limit
returns-clause-limit g c = omega (arith, c.len.ensures.value, c.text_at.ensures.limit)
