use Rattle.std.proofs.Common.{◌∙◌}
use Rattle.mgs_buffers.proofs.MarkedLemmas.{has_buffer-lookup}
use Rattle.mgs_buffers.proofs.buffers.Buffers.has.Goals as goal

pub returns : goal.returns
returns g c = c.contains_key.ensures ∙ has_buffer-lookup g.T.Text.text g.T.Text.marks c.args.name.now c.self.inside.all.entries c.args.self.now c.self.view_is
