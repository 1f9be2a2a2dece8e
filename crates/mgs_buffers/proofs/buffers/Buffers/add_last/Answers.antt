use Rattle.std.proofs.Common.{◌∙◌, arith, sym, ap, subst}
use Rattle.mgs_buffers.specs.MarkedBuffer.{marked_restored, AreWithinLimit}
use Rattle.mgs_buffers.specs.Contents.{marked_all}
use Rattle.mgs_buffers.proofs.MarkedLemmas.{has_buffer-lookup, none_of, kept-added, OnOk-map}
use Rattle.mgs_buffers.proofs.Limits.{limit-added, ended}
use Rattle.mgs_buffers.proofs.buffers.Buffers.add_last.Goals as goal

pub put_last-requires : goal.put_last-requires
put_last-requires g c =
    none_of _ (has_buffer-lookup g.T.Text.text g.T.Text.marks c.args.name c.self.inside.all.entries c.args.self.now c.self.view_is ∙ c.requires.free)

pub returns-clause-ok : goal.returns-clause-ok
returns-clause-ok g c =
    OnOk-map c.put_last.result
    (λ more. kept-added g.T.Text.text g.T.Text.marks c.self.inside.all.entries c.put_last.new.all.entries c.args.self.now c.args.name c.in_ok-buffer.buffer (marked_restored c.args.name c.args.owners c.args.list c.args.text.now c.args.has_file c.args.modified) c.self.view_is more (c.in_ok-buffer.ensures c.args.name))
    c.put_last.ensures.ok

pub invariant_of-self : goal.invariant_of-self
invariant_of-self g c =
    let old = subst AreWithinLimit c.self.view_is c.self.invariant in
    let k = marked_restored c.args.name c.args.owners c.args.list c.args.text.now c.args.has_file c.args.modified in
    ended c.put_last.result c.put_last.ensures.ok c.put_last.ensures.err
    (λ more. subst AreWithinLimit (sym (kept-added g.T.Text.text g.T.Text.marks c.self.inside.all.entries c.put_last.new.all.entries c.args.self.now c.args.name c.in_ok-buffer.buffer k c.self.view_is more (c.in_ok-buffer.ensures c.args.name)))
    (limit-added c.args.self.now k old (omega (arith, c.requires.room))))
    (λ same. subst AreWithinLimit (sym (ap (marked_all g.T.Text.text g.T.Text.marks) same ∙ c.self.view_is)) old)
