use Rattle.std.proofs.Common.{ℕ, ap, sym, ◌∙◌}
use Rattle.mgs_model.specs.Acts.{permitted}
use Rattle.mgs_plan.specs.Deciding.{outcome_read}
use Rattle.mgs_plan.specs.Inserting.{rights_decision}
use Rattle.mgs_plan.proofs.judgement.judged.Goals as goal

pub returns-in-Some-clause-value : goal.returns-in-Some-clause-value
returns-in-Some-clause-value g c = λ v stored.
    let granted = outcome_read c.args.buffers.now v c.args.granted stored in
    ap (λ (m : ℕ). permitted v.session.state (rights_decision c.args.directory.now c.args.buffers.now c.args.session.now.user c.args.name.now m) granted) (sym c.of.ensures)
    ∙ c.in-Some.ensures.refused v.session.state granted
