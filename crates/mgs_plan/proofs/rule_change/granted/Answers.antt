use Rattle.std.proofs.Common.{sym, ap, subst, ◌∙◌}
use Rattle.mgs_model.specs.Acts.{effects}
use Rattle.mgs_buffers.specs.MarkedBuffer.{marked_at}
use Rattle.mgs_plan.specs.Deciding.{IsGranted}
use Rattle.mgs_plan.specs.Ruling.{ruling_mask, ruling_plan}
use Rattle.mgs_plan.specs.declared.rule_change.Ruling.{Ruling}
use Rattle.mgs_plan.proofs.rule_change.granted.Goals as goal

pub returns-in-Owner-clause-value : goal.returns-in-Owner-clause-value
returns-in-Owner-clause-value g c = λ v stored.
    let b = (marked_at c.args.name c.args.buffers.now).buffer in
    c.owner_ruled.ensures.value c.args.buffers.now v stored
    ∙ ap (λ (k : Ruling). effects v.session.state (ruling_plan c.args.directory.now c.args.name b.entries k c.args.argument c.args.typed.now)) (sym c.in-Owner.is)

pub returns-in-Group-clause-value : goal.returns-in-Group-clause-value
returns-in-Group-clause-value g c = λ v stored.
    let b = (marked_at c.args.name c.args.buffers.now).buffer in
    c.group_ruled.ensures.value c.args.buffers.now v stored
    ∙ ap (λ (k : Ruling). effects v.session.state (ruling_plan c.args.directory.now c.args.name b.entries k c.args.argument c.args.typed.now)) (sym c.in-Group.is)

pub returns-in-Entries-clause-value : goal.returns-in-Entries-clause-value
returns-in-Entries-clause-value g c = λ v stored.
    let b = (marked_at c.args.name c.args.buffers.now).buffer in
    c.entries_ruled.ensures.value v stored
    ∙ ap (λ (k : Ruling). effects v.session.state (ruling_plan c.args.directory.now c.args.name b.entries k c.args.argument c.args.typed.now)) (sym c.in-Entries.is)

pub returns-in-Owner-clause-can : goal.returns-in-Owner-clause-can
returns-in-Owner-clause-can g c = λ h granted.
    c.owner_ruled.ensures.can c.args.buffers.now h (record {
      kept = c.requires;
      granted = subst (λ (k : Ruling). IsGranted c.args.directory.now c.args.buffers.now h.user c.args.name (ruling_mask k)) c.in-Owner.is granted;
    })

pub returns-in-Group-clause-can : goal.returns-in-Group-clause-can
returns-in-Group-clause-can g c = λ h granted.
    c.group_ruled.ensures.can c.args.buffers.now h (record {
      kept = c.requires;
      granted = subst (λ (k : Ruling). IsGranted c.args.directory.now c.args.buffers.now h.user c.args.name (ruling_mask k)) c.in-Group.is granted;
    })

pub returns-in-Entries-clause-can : goal.returns-in-Entries-clause-can
returns-in-Entries-clause-can g c = λ h granted.
    c.entries_ruled.ensures.can c.args.directory.now h (subst (λ (k : Ruling). IsGranted c.args.directory.now c.args.buffers.now h.user c.args.name (ruling_mask k)) c.in-Entries.is granted)
