use Rattle.std.proofs.Common.{sym, subst}
use Rattle.mgs_model.specs.Access.{decision}
use Rattle.mgs_buffers.specs.Changing.{marked_updated, update_mask}
use Rattle.mgs_buffers.specs.MarkedBuffer.{MarkedBuffer, AreWithinLimit}
use Rattle.mgs_buffers.specs.Permitting.{PermitAnswers}
use Rattle.mgs_buffers.proofs.MarkedLemmas.{kept-at_place, kept-written, kept-same, OnOk-map, OnErr-map}
use Rattle.mgs_buffers.proofs.Limits.{limit-same, ended}
use Rattle.mgs_buffers.proofs.Updates.{updated_text}
use Rattle.mgs_buffers.proofs.buffers.Buffers.update_as.Goals as goal

pub returns-clause-answer : goal.returns-clause-answer
returns-clause-answer g c =
    let is = kept-at_place g.T.Text.text g.T.Text.marks c.args.name.now c.self.inside.all.entries c.args.self.now c.place_of-at.result _ c.pair_mut-buffer.result.1.now c.self.view_is c.place_of-at.ensures.value c.pair_mut-buffer.ensures.value in
    subst (λ (k : MarkedBuffer). PermitAnswers c.update_as.result (decision c.args.directory.now k.buffer.owners c.args.user.now k.buffer.entries (update_mask c.args.update))) is c.update_as.ensures.answer

pub returns-clause-ok : goal.returns-clause-ok
returns-clause-ok g c =
    let change : MarkedBuffer → MarkedBuffer = marked_updated c.args.update in
    OnOk-map c.update_as.result (kept-written g.T.Text.text g.T.Text.marks c.args.name.now change c.self.inside.all.entries c.args.self.now c.place_of-at.result _ c.pair_mut-buffer.result.1.now c.update_as.new.self c.self.view_is c.place_of-at.ensures.value c.pair_mut-buffer.ensures.value) c.update_as.ensures.ok

pub returns-clause-err : goal.returns-clause-err
returns-clause-err g c =
    OnErr-map c.update_as.result (kept-same g.T.Text.text g.T.Text.marks c.self.inside.all.entries c.args.self.now c.place_of-at.result _ c.pair_mut-buffer.result.1.now c.update_as.new.self c.self.view_is c.pair_mut-buffer.ensures.value) c.update_as.ensures.err

pub invariant_of-self : goal.invariant_of-self
invariant_of-self g c =
    let change : MarkedBuffer → MarkedBuffer = marked_updated c.args.update in
    let old = subst AreWithinLimit c.self.view_is c.self.invariant in
    ended c.update_as.result c.update_as.ensures.ok c.update_as.ensures.err
    (λ does. subst AreWithinLimit (sym (kept-written g.T.Text.text g.T.Text.marks c.args.name.now change c.self.inside.all.entries c.args.self.now c.place_of-at.result _ c.pair_mut-buffer.result.1.now c.update_as.new.self c.self.view_is c.place_of-at.ensures.value c.pair_mut-buffer.ensures.value does)) (limit-same c.args.name.now change c.args.self.now (updated_text c.args.update) old))
    (λ same. subst AreWithinLimit (sym (kept-same g.T.Text.text g.T.Text.marks c.self.inside.all.entries c.args.self.now c.place_of-at.result _ c.pair_mut-buffer.result.1.now c.update_as.new.self c.self.view_is c.pair_mut-buffer.ensures.value same)) old)
