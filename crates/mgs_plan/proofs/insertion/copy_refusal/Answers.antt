use Rattle.mgs_plan.specs.Inserting.{rights_decision, target_decision}
use Rattle.mgs_plan.proofs.Copies.{denied_first}
use Rattle.mgs_plan.proofs.insertion.copy_refusal.Goals as goal

pub returns-in-Some-clause-refused : goal.returns-in-Some-clause-refused
returns-in-Some-clause-refused g c = λ state.
    let d = c.args.actor.now.directory.now in
    let ks = c.args.buffers.now in
    let user = c.args.actor.now.user.now in
    denied_first state (rights_decision d ks user c.args.source.now 1) (target_decision d ks user c.args.name.now c.args.place) c.in-Some.message (c.in-Some.ensures.refused state)
