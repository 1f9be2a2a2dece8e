use Rattle.std.proofs.Common.{sym, ◌∙◌}
use Rattle.mgs_plan.proofs.Listings.{list_planned, list_unshown}
use Rattle.mgs_plan.proofs.Rulings.{no_empty_name}
use Rattle.mgs_plan.proofs.entry_list.plan_list.Goals as goal

pub returns-in_default-clause-value : goal.returns-in_default-clause-value
returns-in_default-clause-value g c = λ n xs next.
    let named = c.name_typed.ensures in
    list_unshown c.args.directory.now c.args.buffers.now xs next n c.args.session.now
    (no_empty_name c.args.buffers.now c.name_typed.result named.value named.form named.there) (sym c.in_default.is ∙ c.subject_in.ensures.value)

pub returns-clause-value : goal.returns-clause-value
returns-clause-value g c = λ n xs next.
    let named = c.name_typed.ensures in
    list_planned c.args.directory.now c.args.buffers.now xs next n c.args.session.now
    (no_empty_name c.args.buffers.now c.name_typed.result named.value named.form named.there)
    c.in-Some.name c.judged.result (sym c.in-Some.is ∙ c.subject_in.ensures.value) c.judged.ensures.value

pub returns-clause-can : goal.returns-clause-can
returns-clause-can g c = c.judged.ensures.can c.args.session.now (λ granted. tt)
