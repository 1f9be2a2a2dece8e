use Rattle.std.proofs.Common.{◌≡◌, refl, sym, subst, is_ok}
use Rattle.mgs_model.specs.Access.{decision}
use Rattle.mgs_store.specs.Stores.{told_more}
use Rattle.mgs_buffers.specs.MarkedBuffer.{MarkedBuffer, AreWithinLimit, marked_unmodified}
use Rattle.mgs_buffers.specs.Saving.{SaveAnswers, saves_if}
use Rattle.mgs_buffers.proofs.MarkedLemmas.{kept-at_place, kept-written, kept-same, OnOk-map, OnErr-map}
use Rattle.mgs_buffers.proofs.Limits.{limit-same, ended}
use Rattle.mgs_buffers.proofs.buffers.Buffers.save_as.Goals as goal

pub returns-clause-answer : goal.returns-clause-answer
returns-clause-answer g c =
    let is = kept-at_place g.T.Text.text g.T.Text.marks c.args.name.now c.self.inside.all.entries c.args.self.now c.place_of-at.result _ c.pair_mut-buffer.result.1.now c.self.view_is c.place_of-at.ensures.value c.pair_mut-buffer.ensures.value in
    subst (λ (k : MarkedBuffer). SaveAnswers c.save_as.result (decision c.args.directory.now k.buffer.owners c.args.user.now k.buffer.entries 3) k.buffer.file) is c.save_as.ensures.answer

pub returns-clause-saved : goal.returns-clause-saved
returns-clause-saved g c =
    let is = kept-at_place g.T.Text.text g.T.Text.marks c.args.name.now c.self.inside.all.entries c.args.self.now c.place_of-at.result _ c.pair_mut-buffer.result.1.now c.self.view_is c.place_of-at.ensures.value c.pair_mut-buffer.ensures.value in
    subst (λ (k : MarkedBuffer). g.S.Store.accepted c.save_as.new.store ≡ told_more (saves_if (is_ok c.save_as.result) c.args.name.now k.buffer.text) (g.S.Store.accepted c.args.store.now)) is c.save_as.ensures.saved

pub returns-clause-ok : goal.returns-clause-ok
returns-clause-ok g c =
    OnOk-map c.save_as.result (kept-written g.T.Text.text g.T.Text.marks c.args.name.now marked_unmodified c.self.inside.all.entries c.args.self.now c.place_of-at.result _ c.pair_mut-buffer.result.1.now c.save_as.new.self c.self.view_is c.place_of-at.ensures.value c.pair_mut-buffer.ensures.value) c.save_as.ensures.ok

pub returns-clause-err : goal.returns-clause-err
returns-clause-err g c =
    OnErr-map c.save_as.result (kept-same g.T.Text.text g.T.Text.marks c.self.inside.all.entries c.args.self.now c.place_of-at.result _ c.pair_mut-buffer.result.1.now c.save_as.new.self c.self.view_is c.pair_mut-buffer.ensures.value) c.save_as.ensures.err

pub invariant_of-self : goal.invariant_of-self
invariant_of-self g c =
    let old = subst AreWithinLimit c.self.view_is c.self.invariant in
    ended c.save_as.result c.save_as.ensures.ok c.save_as.ensures.err
    (λ does. subst AreWithinLimit (sym (kept-written g.T.Text.text g.T.Text.marks c.args.name.now marked_unmodified c.self.inside.all.entries c.args.self.now c.place_of-at.result _ c.pair_mut-buffer.result.1.now c.save_as.new.self c.self.view_is c.place_of-at.ensures.value c.pair_mut-buffer.ensures.value does)) (limit-same c.args.name.now marked_unmodified c.args.self.now (λ k. refl) old))
    (λ same. subst AreWithinLimit (sym (kept-same g.T.Text.text g.T.Text.marks c.self.inside.all.entries c.args.self.now c.place_of-at.result _ c.pair_mut-buffer.result.1.now c.save_as.new.self c.self.view_is c.pair_mut-buffer.ensures.value same)) old)
