use Rattle.std.proofs.Common.{◌≤◌, ◌<◌, ◌-◌, ◌^◌, sym, subst, length}
use Rattle.mgs_model.specs.Access.{decision}
use Rattle.mgs_buffers.specs.MarkedBuffer.{MarkedBuffer, marked_edited}
use Rattle.mgs_buffers.specs.Permitting.{EditAnswers}
use Rattle.mgs_buffers.proofs.MarkedLemmas.{kept-at_place, kept-written, kept-same, OnOk-map, OnErr-map}
use Rattle.mgs_buffers.proofs.Limits.{limit-edited, ended}
use Rattle.mgs_buffers.specs.MarkedBuffer.{AreWithinLimit}
use Rattle.mgs_buffers.proofs.buffers.Buffers.edit_as.Goals as goal

pub edit_as-requires-clause-within : goal.edit_as-requires-clause-within
edit_as-requires-clause-within g c =
    let is = kept-at_place g.T.Text.text g.T.Text.marks c.args.name.now c.self.inside.all.entries c.args.self.now c.place_of-at.result _ c.pair_mut-buffer.result.1.now c.self.view_is c.place_of-at.ensures.value c.pair_mut-buffer.ensures.value in
    subst (λ (k : MarkedBuffer). c.args.b ≤ length k.buffer.text) (sym is) c.requires.within

pub edit_as-requires-clause-serial : goal.edit_as-requires-clause-serial
edit_as-requires-clause-serial g c =
    let is = kept-at_place g.T.Text.text g.T.Text.marks c.args.name.now c.self.inside.all.entries c.args.self.now c.place_of-at.result _ c.pair_mut-buffer.result.1.now c.self.view_is c.place_of-at.ensures.value c.pair_mut-buffer.ensures.value in
    subst (λ (k : MarkedBuffer). k.buffer.serial < 2 ^ 64 - 1) (sym is) c.requires.serial

pub returns-clause-answer : goal.returns-clause-answer
returns-clause-answer g c =
    let is = kept-at_place g.T.Text.text g.T.Text.marks c.args.name.now c.self.inside.all.entries c.args.self.now c.place_of-at.result _ c.pair_mut-buffer.result.1.now c.self.view_is c.place_of-at.ensures.value c.pair_mut-buffer.ensures.value in
    subst (λ (k : MarkedBuffer). EditAnswers c.edit_as.result (decision c.args.directory.now k.buffer.owners c.args.user.now k.buffer.entries c.args.mask)) is c.edit_as.ensures.answer

pub returns-clause-ok : goal.returns-clause-ok
returns-clause-ok g c =
    OnOk-map c.edit_as.result
    (kept-written g.T.Text.text g.T.Text.marks c.args.name.now (marked_edited c.args.a c.args.b c.args.put.now) c.self.inside.all.entries c.args.self.now c.place_of-at.result _ c.pair_mut-buffer.result.1.now c.edit_as.new.self c.self.view_is c.place_of-at.ensures.value c.pair_mut-buffer.ensures.value)
    c.edit_as.ensures.ok

pub returns-clause-err : goal.returns-clause-err
returns-clause-err g c =
    OnErr-map c.edit_as.result
    (kept-same g.T.Text.text g.T.Text.marks c.self.inside.all.entries c.args.self.now c.place_of-at.result _ c.pair_mut-buffer.result.1.now c.edit_as.new.self c.self.view_is c.pair_mut-buffer.ensures.value)
    c.edit_as.ensures.err

pub invariant_of-self : goal.invariant_of-self
invariant_of-self g c =
    let old = subst AreWithinLimit c.self.view_is c.self.invariant in
    ended c.edit_as.result c.edit_as.ensures.ok c.edit_as.ensures.err
    (λ does. subst AreWithinLimit (sym (kept-written g.T.Text.text g.T.Text.marks c.args.name.now (marked_edited c.args.a c.args.b c.args.put.now) c.self.inside.all.entries c.args.self.now c.place_of-at.result _ c.pair_mut-buffer.result.1.now c.edit_as.new.self c.self.view_is c.place_of-at.ensures.value c.pair_mut-buffer.ensures.value does))
    (limit-edited c.args.name.now c.args.a c.args.b c.args.put.now c.args.self.now old c.requires.order c.requires.within c.requires.room))
    (λ same. subst AreWithinLimit (sym (kept-same g.T.Text.text g.T.Text.marks c.self.inside.all.entries c.args.self.now c.place_of-at.result _ c.pair_mut-buffer.result.1.now c.edit_as.new.self c.self.view_is c.pair_mut-buffer.ensures.value same)) old)
