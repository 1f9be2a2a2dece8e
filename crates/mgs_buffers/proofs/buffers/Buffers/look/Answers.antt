use Rattle.std.proofs.Common.{◌≤◌, ◌∙◌, ap, length, sym, subst}
use Rattle.mgs_model.specs.Searching.{places_after, sought_after}
use Rattle.mgs_buffers.specs.MarkedBuffer.{MarkedBuffer, AreWithinLimit}
use Rattle.mgs_buffers.specs.Searched.{IsStepPlanned}
use Rattle.mgs_buffers.proofs.MarkedLemmas.{kept-at_place, kept-same}
use Rattle.mgs_buffers.proofs.buffers.Buffers.look.Goals as goal

pub look-requires-clause-origin : goal.look-requires-clause-origin
look-requires-clause-origin g c =
    let is = kept-at_place g.T.Text.text g.T.Text.marks c.args.name.now c.self.inside.all.entries c.args.self.now c.place_of-at.result _ c.pair_mut-buffer.result.1.now c.self.view_is c.place_of-at.ensures.value c.pair_mut-buffer.ensures.value in
    subst (λ (k : MarkedBuffer). c.args.places.origin ≤ length k.buffer.text) (sym is) c.requires.origin

pub look-requires-clause-anchor : goal.look-requires-clause-anchor
look-requires-clause-anchor g c =
    let is = kept-at_place g.T.Text.text g.T.Text.marks c.args.name.now c.self.inside.all.entries c.args.self.now c.place_of-at.result _ c.pair_mut-buffer.result.1.now c.self.view_is c.place_of-at.ensures.value c.pair_mut-buffer.ensures.value in
    subst (λ (k : MarkedBuffer). c.args.places.anchor ≤ length k.buffer.text) (sym is) c.requires.anchor

pub returns-clause-same : goal.returns-clause-same
returns-clause-same g c =
    kept-same g.T.Text.text g.T.Text.marks c.self.inside.all.entries c.args.self.now c.place_of-at.result _ c.pair_mut-buffer.result.1.now _ c.self.view_is c.pair_mut-buffer.ensures.value c.look.ensures.same

pub returns-clause-plan : goal.returns-clause-plan
returns-clause-plan g c =
    let is = kept-at_place g.T.Text.text g.T.Text.marks c.args.name.now c.self.inside.all.entries c.args.self.now c.place_of-at.result _ c.pair_mut-buffer.result.1.now c.self.view_is c.place_of-at.ensures.value c.pair_mut-buffer.ensures.value in
    subst (λ (k : MarkedBuffer). IsStepPlanned c.args.step c.args.search.now c.look.new.search k.buffer.text c.args.places c.look.result) is c.look.ensures.plan

pub returns-clause-sought : goal.returns-clause-sought
returns-clause-sought g c =
    let is = kept-at_place g.T.Text.text g.T.Text.marks c.args.name.now c.self.inside.all.entries c.args.self.now c.place_of-at.result _ c.pair_mut-buffer.result.1.now c.self.view_is c.place_of-at.ensures.value c.pair_mut-buffer.ensures.value in
    c.look.ensures.sought ∙ ap (λ (k : MarkedBuffer). sought_after c.args.step c.args.search.now k.buffer.text c.args.places) is

pub returns-clause-places : goal.returns-clause-places
returns-clause-places g c =
    let is = kept-at_place g.T.Text.text g.T.Text.marks c.args.name.now c.self.inside.all.entries c.args.self.now c.place_of-at.result _ c.pair_mut-buffer.result.1.now c.self.view_is c.place_of-at.ensures.value c.pair_mut-buffer.ensures.value in
    c.look.ensures.places ∙ ap (λ (k : MarkedBuffer). places_after c.args.step c.args.search.now k.buffer.text c.args.places) is

pub returns-clause-anchor : goal.returns-clause-anchor
returns-clause-anchor g c =
    let is = kept-at_place g.T.Text.text g.T.Text.marks c.args.name.now c.self.inside.all.entries c.args.self.now c.place_of-at.result _ c.pair_mut-buffer.result.1.now c.self.view_is c.place_of-at.ensures.value c.pair_mut-buffer.ensures.value in
    subst (λ (k : MarkedBuffer). c.look.result.anchor ≤ length k.buffer.text) is c.look.ensures.anchor

pub returns-clause-point : goal.returns-clause-point
returns-clause-point g c =
    let is = kept-at_place g.T.Text.text g.T.Text.marks c.args.name.now c.self.inside.all.entries c.args.self.now c.place_of-at.result _ c.pair_mut-buffer.result.1.now c.self.view_is c.place_of-at.ensures.value c.pair_mut-buffer.ensures.value in
    subst (λ (k : MarkedBuffer). c.args.places.point ≤ length k.buffer.text → c.look.result.point ≤ length k.buffer.text) is c.look.ensures.point

pub invariant_of-self : goal.invariant_of-self
invariant_of-self g c =
    subst AreWithinLimit (sym (kept-same g.T.Text.text g.T.Text.marks c.self.inside.all.entries c.args.self.now c.place_of-at.result _ c.pair_mut-buffer.result.1.now _ c.self.view_is c.pair_mut-buffer.ensures.value c.look.ensures.same))
    (subst AreWithinLimit c.self.view_is c.self.invariant)
