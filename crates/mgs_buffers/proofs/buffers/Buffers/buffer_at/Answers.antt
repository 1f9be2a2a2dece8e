use Rattle.std.proofs.Common.{sym}
use Rattle.mgs_buffers.proofs.Judged.{mapped_one}
use Rattle.mgs_buffers.proofs.MarkedLemmas.{kept-at_place}
use Rattle.mgs_buffers.proofs.Places.{place_within}
use Rattle.mgs_buffers.proofs.buffers.Buffers.buffer_at.Goals as goal

pub unwrap-requires : goal.unwrap-requires
unwrap-requires g c =
    c.get_index.ensures.found.1 (place_within g.T.Text.text g.T.Text.marks c.args.name.now c.args.at c.self.inside.all.entries c.args.self.now c.self.view_is c.requires.kept c.requires.place)

pub returns : goal.returns
returns g c =
    kept-at_place g.T.Text.text g.T.Text.marks c.args.name.now c.self.inside.all.entries c.args.self.now c.args.at _ c.unwrap.result.1.now c.self.view_is c.requires.place
    (sym (mapped_one _ c.get_index.result c.unwrap.result _ c.unwrap.ensures c.get_index.ensures.entry))
