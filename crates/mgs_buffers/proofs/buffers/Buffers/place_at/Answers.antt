use Rattle.std.proofs.Common.{refl, ◌≤◌, IsSome, sym, subst, length}
use Rattle.mgs_marks.specs.Marks.{mark_in}
use Rattle.mgs_buffers.specs.MarkedBuffer.{MarkedBuffer, marked_placed}
use Rattle.mgs_buffers.proofs.MarkedLemmas.{kept-at_place, kept-written}
use Rattle.mgs_buffers.proofs.Limits.{limit-same}
use Rattle.mgs_buffers.specs.MarkedBuffer.{AreWithinLimit}
use Rattle.mgs_buffers.proofs.Places.{place_within}
use Rattle.mgs_buffers.proofs.buffers.Buffers.place_at.Goals as goal

pub pair_mut-buffer-requires : goal.pair_mut-buffer-requires
pair_mut-buffer-requires g c = place_within g.T.Text.text g.T.Text.marks c.args.name.now c.args.at c.self.inside.all.entries c.args.self.now c.self.view_is c.requires.kept c.requires.place

pub place-requires-clause-used : goal.place-requires-clause-used
place-requires-clause-used g c =
    let is = kept-at_place g.T.Text.text g.T.Text.marks c.args.name.now c.self.inside.all.entries c.args.self.now c.args.at _ c.pair_mut-buffer.result.1.now c.self.view_is c.requires.place c.pair_mut-buffer.ensures.value in
    subst (λ (k : MarkedBuffer). IsSome (mark_in k.marks c.args.id)) (sym is) c.requires.mark

pub place-requires-clause-within : goal.place-requires-clause-within
place-requires-clause-within g c =
    let is = kept-at_place g.T.Text.text g.T.Text.marks c.args.name.now c.self.inside.all.entries c.args.self.now c.args.at _ c.pair_mut-buffer.result.1.now c.self.view_is c.requires.place c.pair_mut-buffer.ensures.value in
    subst (λ (k : MarkedBuffer). c.args.p ≤ length k.buffer.text) (sym is) c.requires.within

pub returns : goal.returns
returns g c =
    kept-written g.T.Text.text g.T.Text.marks c.args.name.now (marked_placed c.args.id c.args.p) c.self.inside.all.entries c.args.self.now c.args.at _ c.pair_mut-buffer.result.1.now _ c.self.view_is c.requires.place c.pair_mut-buffer.ensures.value c.place.ensures

pub invariant_of-self : goal.invariant_of-self
invariant_of-self g c =
    subst AreWithinLimit (sym (kept-written g.T.Text.text g.T.Text.marks c.args.name.now (marked_placed c.args.id c.args.p) c.self.inside.all.entries c.args.self.now c.args.at _ c.pair_mut-buffer.result.1.now _ c.self.view_is c.requires.place c.pair_mut-buffer.ensures.value c.place.ensures))
    (limit-same c.args.name.now (marked_placed c.args.id c.args.p) c.args.self.now (λ k. refl) (subst AreWithinLimit c.self.view_is c.self.invariant))
