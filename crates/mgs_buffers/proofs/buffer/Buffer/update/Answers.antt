use Rattle.std.proofs.Common.{sym, ap, ◌∙◌}
use Rattle.mgs_buffers.specs.Changing.{marked_updated}
use Rattle.mgs_buffers.specs.Contents.{marked_of}
use Rattle.mgs_buffers.specs.declared.user_changes.Update.{Update}
use Rattle.mgs_buffers.proofs.buffer.Buffer.update.Goals as goal

pub returns-in-Unmodify : goal.returns-in-Unmodify
returns-in-Unmodify g c = λ name. c.unmodify.ensures name ∙ ap (λ (u : Update). marked_updated u (marked_of g.T.Text.text g.T.Text.marks name c.args.self.now)) (sym c.in-Unmodify.is)

pub returns-in-SetOwners : goal.returns-in-SetOwners
returns-in-SetOwners g c = λ name. c.set_owners.ensures name ∙ ap (λ (u : Update). marked_updated u (marked_of g.T.Text.text g.T.Text.marks name c.args.self.now)) (sym c.in-SetOwners.is)

pub returns-in-Regroup : goal.returns-in-Regroup
returns-in-Regroup g c = λ name. c.set_group.ensures name ∙ ap (λ (u : Update). marked_updated u (marked_of g.T.Text.text g.T.Text.marks name c.args.self.now)) (sym c.in-Regroup.is)

pub returns-in-SetList : goal.returns-in-SetList
returns-in-SetList g c = λ name. c.set_list.ensures name ∙ ap (λ (u : Update). marked_updated u (marked_of g.T.Text.text g.T.Text.marks name c.args.self.now)) (sym c.in-SetList.is)
