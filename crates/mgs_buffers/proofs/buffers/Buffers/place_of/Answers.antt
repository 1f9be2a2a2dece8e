use Rattle.std.proofs.Common.{◌∙◌}
use Rattle.mgs_buffers.proofs.MarkedLemmas.{has_buffer-lookup}
use Rattle.mgs_buffers.proofs.buffers.Buffers.place_of.Goals as goal

pub unwrap-requires : goal.unwrap-requires
unwrap-requires g c =
    c.get_index_of.ensures.found ∙ has_buffer-lookup g.T.Text.text g.T.Text.marks c.args.name.now c.self.inside.all.entries c.args.self.now c.self.view_is ∙ c.requires
