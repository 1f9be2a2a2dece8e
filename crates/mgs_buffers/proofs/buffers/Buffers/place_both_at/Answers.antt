use Rattle.std.proofs.Common.{ap, sym, subst, ◌∙◌}
use Rattle.mgs_buffers.specs.MarkedBuffer.{MarkedBuffer, AreWithinLimit}
use Rattle.mgs_buffers.specs.Placing.{CanStand, marked_placed_if}
use Rattle.mgs_buffers.proofs.MarkedLemmas.{kept-at_place, kept-written}
use Rattle.mgs_buffers.proofs.Limits.{limit-same}
use Rattle.mgs_buffers.proofs.Placing.{placed_both, placed_text}
use Rattle.mgs_buffers.proofs.Places.{place_within}
use Rattle.mgs_buffers.proofs.buffers.Buffers.place_both_at.Goals as goal

pub pair_mut-buffer-requires : goal.pair_mut-buffer-requires
pair_mut-buffer-requires g c = place_within g.T.Text.text g.T.Text.marks c.args.name.now c.args.at c.self.inside.all.entries c.args.self.now c.self.view_is c.requires.kept c.requires.place

pub place_both-requires-clause-first : goal.place_both-requires-clause-first
place_both-requires-clause-first g c =
    let is = kept-at_place g.T.Text.text g.T.Text.marks c.args.name.now c.self.inside.all.entries c.args.self.now c.args.at _ c.pair_mut-buffer.result.1.now c.self.view_is c.requires.place c.pair_mut-buffer.ensures.value in
    subst (λ (k : MarkedBuffer). CanStand k.marks k.buffer.text c.args.first) (sym is) c.requires.first

pub place_both-requires-clause-second : goal.place_both-requires-clause-second
place_both-requires-clause-second g c =
    let is = kept-at_place g.T.Text.text g.T.Text.marks c.args.name.now c.self.inside.all.entries c.args.self.now c.args.at _ c.pair_mut-buffer.result.1.now c.self.view_is c.requires.place c.pair_mut-buffer.ensures.value in
    subst (λ (k : MarkedBuffer). CanStand k.marks k.buffer.text c.args.second) (sym is) c.requires.second

pub returns : goal.returns
returns g c =
    kept-written g.T.Text.text g.T.Text.marks c.args.name.now (λ k. marked_placed_if c.args.second (marked_placed_if c.args.first k)) c.self.inside.all.entries c.args.self.now c.args.at _ c.pair_mut-buffer.result.1.now _ c.self.view_is c.requires.place c.pair_mut-buffer.ensures.value c.place_both.ensures
    ∙ placed_both c.args.name.now c.args.first c.args.second c.args.self.now

pub invariant_of-self : goal.invariant_of-self
invariant_of-self g c =
    let both : MarkedBuffer → MarkedBuffer = λ k. marked_placed_if c.args.second (marked_placed_if c.args.first k) in
    subst AreWithinLimit (sym (kept-written g.T.Text.text g.T.Text.marks c.args.name.now both c.self.inside.all.entries c.args.self.now c.args.at _ c.pair_mut-buffer.result.1.now _ c.self.view_is c.requires.place c.pair_mut-buffer.ensures.value c.place_both.ensures))
    (limit-same c.args.name.now both c.args.self.now (λ k. ap (λ b. b.text) (placed_text c.args.second (marked_placed_if c.args.first k) ∙ placed_text c.args.first k)) (subst AreWithinLimit c.self.view_is c.self.invariant))
