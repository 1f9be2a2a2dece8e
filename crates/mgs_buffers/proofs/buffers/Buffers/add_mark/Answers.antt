use Rattle.std.proofs.Common.{refl, ◌≤◌, sym, ap, subst, length, ◌∙◌}
use Rattle.mgs_marks.specs.Marks.{mark_in}
use Rattle.mgs_buffers.specs.MarkedBuffer.{MarkedBuffer, with_marks}
use Rattle.mgs_buffers.proofs.MarkedLemmas.{kept-at_place, kept-written, kept-same, OnErr-map, IfOk-map}
use Rattle.mgs_buffers.proofs.Limits.{limit-same}
use Rattle.mgs_buffers.specs.MarkedBuffer.{AreWithinLimit}
use Rattle.mgs_buffers.proofs.buffers.Buffers.add_mark.Goals as goal

pub add_mark-requires : goal.add_mark-requires
add_mark-requires g c =
    let is = kept-at_place g.T.Text.text g.T.Text.marks c.args.name.now c.self.inside.all.entries c.args.self.now c.place_of-at.result _ c.pair_mut-buffer.result.1.now c.self.view_is c.place_of-at.ensures.value c.pair_mut-buffer.ensures.value in
    subst (λ (k : MarkedBuffer). c.args.p ≤ length k.buffer.text) (sym is) c.requires.within

pub returns-clause-ok : goal.returns-clause-ok
returns-clause-ok g c =
    let is = kept-at_place g.T.Text.text g.T.Text.marks c.args.name.now c.self.inside.all.entries c.args.self.now c.place_of-at.result _ c.pair_mut-buffer.result.1.now c.self.view_is c.place_of-at.ensures.value c.pair_mut-buffer.ensures.value in
    IfOk-map c.add_mark.result
    (λ id free added others. record {
      marks = g.T.Text.marks c.add_mark.new.self.text;
      shape = kept-written g.T.Text.text g.T.Text.marks c.args.name.now (with_marks (g.T.Text.marks c.add_mark.new.self.text)) c.self.inside.all.entries c.args.self.now c.place_of-at.result _ c.pair_mut-buffer.result.1.now _ c.self.view_is c.place_of-at.ensures.value c.pair_mut-buffer.ensures.value
          c.add_mark.ensures.shape;
      free = sym (ap (λ (k : MarkedBuffer). mark_in k.marks id) is) ∙ free;
      added = added;
      others = λ k apart. others k apart ∙ ap (λ (x : MarkedBuffer). mark_in x.marks k) is;
    })
    c.add_mark.ensures.free c.add_mark.ensures.added c.add_mark.ensures.others

pub returns-clause-err : goal.returns-clause-err
returns-clause-err g c =
    OnErr-map c.add_mark.result
    (λ same. kept-same g.T.Text.text g.T.Text.marks c.self.inside.all.entries c.args.self.now c.place_of-at.result _ c.pair_mut-buffer.result.1.now _ c.self.view_is c.pair_mut-buffer.ensures.value
    same)
    c.add_mark.ensures.err

pub invariant_of-self : goal.invariant_of-self
invariant_of-self g c =
    let marks = g.T.Text.marks c.add_mark.new.self.text in
    subst AreWithinLimit (sym (kept-written g.T.Text.text g.T.Text.marks c.args.name.now (with_marks marks) c.self.inside.all.entries c.args.self.now c.place_of-at.result _ c.pair_mut-buffer.result.1.now _ c.self.view_is c.place_of-at.ensures.value c.pair_mut-buffer.ensures.value c.add_mark.ensures.shape))
    (limit-same c.args.name.now (with_marks marks) c.args.self.now (λ k. refl) (subst AreWithinLimit c.self.view_is c.self.invariant))
