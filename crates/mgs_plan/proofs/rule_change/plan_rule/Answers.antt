use Rattle.std.proofs.Common.{sym, subst, ◌∙◌}
use Rattle.mgs_model.specs.Rights.{bit_of}
use Rattle.mgs_plan.specs.Deciding.{IsGranted}
use Rattle.mgs_plan.proofs.Rulings.{no_empty_name, rule_planned, rule_unshown}
use Rattle.mgs_plan.proofs.rule_change.plan_rule.Goals as goal

pub returns-in_default-clause-value : goal.returns-in_default-clause-value
returns-in_default-clause-value g c = λ xs next.
    let named = c.name_typed.ensures in
    rule_unshown c.args.directory.now c.args.buffers.now xs next c.args.session.now c.args.ruling c.args.argument c.args.typed.now
    (no_empty_name c.args.buffers.now c.name_typed.result named.value named.form named.there) (sym c.in_default.is ∙ c.subject_in.ensures.value)

pub returns-clause-value : goal.returns-clause-value
returns-clause-value g c = λ xs next.
    let named = c.name_typed.ensures in
    rule_planned c.args.directory.now c.args.buffers.now xs next c.args.session.now c.args.ruling c.args.argument c.args.typed.now
    (no_empty_name c.args.buffers.now c.name_typed.result named.value named.form named.there)
    c.in-Some.name (bit_of c.right_for-right.result) c.granted-ruled.result c.judged.result (sym c.in-Some.is ∙ c.subject_in.ensures.value) c.right_for-right.ensures c.granted-ruled.ensures.value c.judged.ensures.value

pub returns-clause-can : goal.returns-clause-can
returns-clause-can g c =
    let h = c.args.session.now in
    c.judged.ensures.can h (λ granted. c.granted-ruled.ensures.can h (subst (IsGranted c.args.directory.now c.args.buffers.now h.user c.in-Some.name) c.right_for-right.ensures granted))
