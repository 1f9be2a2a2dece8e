use Rattle.std.proofs.Common.{[], ap, subst, sym, ◌∙◌}
use Rattle.mgs_model.specs.Outcome.{Run}
use Rattle.mgs_plan.specs.Actions.{act_of}
use Rattle.mgs_plan.specs.Deciding.{IsPlanned}
use Rattle.mgs_plan.specs.declared.outcome.Outcome.TheVariants.{Fails}
use Rattle.mgs_model.specs.declared.session.Command.TheVariants.{Entries}
use Rattle.mgs_model.specs.declared.echo_text.Message.TheVariants.{Says}
use Rattle.mgs_model.specs.declared.echo_text.Notice.TheVariants.{KeyNotBound}
use Rattle.mgs_plan.proofs.Unbound.{unbound_planned}
use Rattle.mgs_plan.proofs.acts.plan_act.Goals as goal

pub returns-in_default-clause-value : goal.returns-in_default-clause-value
returns-in_default-clause-value g c =
    let h = c.args.session.now in
    subst (λ a. IsPlanned c.args.directory.now c.args.buffers.now h a (Fails (Says KeyNotBound))) (sym (ap act_of c.in_default.is)) (λ xs next. unbound_planned c.args.directory.now c.args.buffers.now xs next h)

pub returns-in-Entries-clause-value : goal.returns-in-Entries-clause-value
returns-in-Entries-clause-value g c =
    subst (λ a. IsPlanned c.args.directory.now c.args.buffers.now c.args.session.now a c.plan_rule.result) (ap (λ n. Run (Entries c.in-Entries.change) n []) c.counted-count.ensures ∙ sym (ap act_of c.in-Run.is ∙ ap (λ k. Run k c.in-Run.argument []) c.in-Entries.is)) c.plan_rule.ensures.value

pub returns-in-ListEntries-clause-value : goal.returns-in-ListEntries-clause-value
returns-in-ListEntries-clause-value g c =
    subst (λ a. IsPlanned c.args.directory.now c.args.buffers.now c.args.session.now a c.plan_list.result) (sym (ap act_of c.in-Run.is ∙ ap (λ k. Run k c.in-Run.argument []) c.in-ListEntries.is)) (c.plan_list.ensures.value c.in-Run.argument)

pub returns-in-SaveBuffer-clause-value : goal.returns-in-SaveBuffer-clause-value
returns-in-SaveBuffer-clause-value g c =
    subst (λ a. IsPlanned c.args.directory.now c.args.buffers.now c.args.session.now a c.plan_save.result) (sym (ap act_of c.in-Run.is ∙ ap (λ k. Run k c.in-Run.argument []) c.in-SaveBuffer.is)) (c.plan_save.ensures.value c.in-Run.argument)

pub returns-in_default-command : goal.returns-in_default-command
returns-in_default-command g c = record {
  value = subst (λ a. IsPlanned c.args.directory.now c.args.buffers.now c.args.session.now a c.plan_text.result) (ap (λ n. Run c.in-Run.command n []) c.counted-count.ensures ∙ sym (ap act_of c.in-Run.is)) c.plan_text.ensures.value;
  can = c.plan_text.ensures.can;
}
