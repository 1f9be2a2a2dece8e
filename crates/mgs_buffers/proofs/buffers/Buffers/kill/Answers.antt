use Rattle.std.proofs.Common.{◌∙◌, refl, sym, ap, subst}
use Rattle.std.specs.Prelude.{is_some}
use Rattle.mgs_buffers.specs.MarkedBuffer.{AreWithinLimit}
use Rattle.mgs_buffers.proofs.MarkedLemmas.{kept-without, has_buffer-lookup}
use Rattle.mgs_buffers.specs.Contents.{marked_all}
use Rattle.mgs_buffers.proofs.Limits.{limit-removed}
use Rattle.mgs_buffers.proofs.buffers.Buffers.kill.Goals as goal

pub invariant_of-self : goal.invariant_of-self
invariant_of-self g c =
    subst AreWithinLimit (sym (kept-without g.T.Text.text g.T.Text.marks c.args.name.now c.self.inside.all.entries c.take_out.new.all.entries c.args.self.now c.self.view_is c.take_out.ensures.entries))
    (limit-removed c.args.name.now c.args.self.now (subst AreWithinLimit c.self.view_is c.self.invariant))

pub returns-clause-value : goal.returns-clause-value
returns-clause-value g c =
    kept-without g.T.Text.text g.T.Text.marks c.args.name.now c.self.inside.all.entries c.take_out.new.all.entries c.args.self.now c.self.view_is c.take_out.ensures.entries

pub returns-clause-gone : goal.returns-clause-gone
returns-clause-gone g c =
    sym (has_buffer-lookup g.T.Text.text g.T.Text.marks c.args.name.now c.take_out.new.all.entries (marked_all g.T.Text.text g.T.Text.marks c.take_out.new.all.entries) refl) ∙ ap is_some c.take_out.ensures.gone
