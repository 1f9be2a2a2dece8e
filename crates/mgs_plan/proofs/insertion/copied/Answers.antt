use Rattle.std.proofs.Common.{◌≡◌, ℕ, subst}
use Rattle.mgs_model.specs.Acts.{fails, permitted}
use Rattle.mgs_plan.specs.Inserting.{copied_at, copy_decision}
use Rattle.mgs_plan.proofs.insertion.copied.Goals as goal

pub returns-in-Some-clause-value : goal.returns-in-Some-clause-value
returns-in-Some-clause-value g c = λ v stored.
    let d = c.args.directory.now in
    let ks = c.args.buffers.now in
    let user = c.args.session.now.user in
    let name = c.args.window_marks.now.name in
    let state = v.session.state in
    subst (λ (place : ℕ). permitted state (copy_decision d ks user c.args.source name place) (copied_at ks state c.args.source name place) ≡ fails state c.in-Some.message) c.acting_place-place.ensures.value
    (c.in-Some.ensures.refused state (copied_at ks state c.args.source name c.acting_place-place.result))
