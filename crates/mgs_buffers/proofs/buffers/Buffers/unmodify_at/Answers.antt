use Rattle.std.proofs.Common.{refl, sym, subst}
use Rattle.mgs_buffers.specs.MarkedBuffer.{AreWithinLimit, marked_unmodified}
use Rattle.mgs_buffers.proofs.MarkedLemmas.{kept-written}
use Rattle.mgs_buffers.proofs.Limits.{limit-same}
use Rattle.mgs_buffers.proofs.Places.{place_within}
use Rattle.mgs_buffers.proofs.buffers.Buffers.unmodify_at.Goals as goal

pub pair_mut-buffer-requires : goal.pair_mut-buffer-requires
pair_mut-buffer-requires g c = place_within g.T.Text.text g.T.Text.marks c.args.name.now c.args.at c.self.inside.all.entries c.args.self.now c.self.view_is c.requires.kept c.requires.place

pub returns : goal.returns
returns g c =
    kept-written g.T.Text.text g.T.Text.marks c.args.name.now marked_unmodified c.self.inside.all.entries c.args.self.now c.args.at _ c.pair_mut-buffer.result.1.now _ c.self.view_is c.requires.place c.pair_mut-buffer.ensures.value c.unmodify.ensures

pub invariant_of-self : goal.invariant_of-self
invariant_of-self g c =
    subst AreWithinLimit (sym (kept-written g.T.Text.text g.T.Text.marks c.args.name.now marked_unmodified c.self.inside.all.entries c.args.self.now c.args.at _ c.pair_mut-buffer.result.1.now _ c.self.view_is c.requires.place c.pair_mut-buffer.ensures.value c.unmodify.ensures))
    (limit-same c.args.name.now marked_unmodified c.args.self.now (λ k. refl) (subst AreWithinLimit c.self.view_is c.self.invariant))
