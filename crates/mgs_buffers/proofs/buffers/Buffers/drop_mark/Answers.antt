use Rattle.std.proofs.Common.{refl, IsSome, sym, ap, subst, ◌∙◌}
use Rattle.mgs_marks.specs.Marks.{mark_in}
use Rattle.mgs_buffers.specs.MarkedBuffer.{MarkedBuffer, with_marks}
use Rattle.mgs_buffers.proofs.MarkedLemmas.{kept-at_place, kept-written}
use Rattle.mgs_buffers.proofs.Limits.{limit-same}
use Rattle.mgs_buffers.specs.MarkedBuffer.{AreWithinLimit}
use Rattle.mgs_buffers.proofs.buffers.Buffers.drop_mark.Goals as goal

pub drop_mark-requires : goal.drop_mark-requires
drop_mark-requires g c =
    let is = kept-at_place g.T.Text.text g.T.Text.marks c.args.name.now c.self.inside.all.entries c.args.self.now c.place_of-at.result _ c.pair_mut-buffer.result.1.now c.self.view_is c.place_of-at.ensures.value c.pair_mut-buffer.ensures.value in
    subst (λ (k : MarkedBuffer). IsSome (mark_in k.marks c.args.id)) (sym is) c.requires.mark

pub returns : goal.returns
returns g c =
    let is = kept-at_place g.T.Text.text g.T.Text.marks c.args.name.now c.self.inside.all.entries c.args.self.now c.place_of-at.result _ c.pair_mut-buffer.result.1.now c.self.view_is c.place_of-at.ensures.value c.pair_mut-buffer.ensures.value in
    record {
      marks = g.T.Text.marks c.drop_mark.new.self.text;
      shape = kept-written g.T.Text.text g.T.Text.marks c.args.name.now (with_marks (g.T.Text.marks c.drop_mark.new.self.text)) c.self.inside.all.entries c.args.self.now c.place_of-at.result _ c.pair_mut-buffer.result.1.now _ c.self.view_is c.place_of-at.ensures.value c.pair_mut-buffer.ensures.value
          c.drop_mark.ensures.shape;
      gone = c.drop_mark.ensures.gone;
      others = λ k apart. c.drop_mark.ensures.others k apart ∙ ap (λ (x : MarkedBuffer). mark_in x.marks k) is;
    }

pub invariant_of-self : goal.invariant_of-self
invariant_of-self g c =
    let marks = g.T.Text.marks c.drop_mark.new.self.text in
    subst AreWithinLimit (sym (kept-written g.T.Text.text g.T.Text.marks c.args.name.now (with_marks marks) c.self.inside.all.entries c.args.self.now c.place_of-at.result _ c.pair_mut-buffer.result.1.now _ c.self.view_is c.place_of-at.ensures.value c.pair_mut-buffer.ensures.value c.drop_mark.ensures.shape))
    (limit-same c.args.name.now (with_marks marks) c.args.self.now (λ k. refl) (subst AreWithinLimit c.self.view_is c.self.invariant))
