use Rattle.std.proofs.Common.{◌∙◌, ℕ, List, Option, ap}
use Rattle.mgs_model.specs.Access.{decision, owners_of}
use Rattle.mgs_policy.proofs.Walks.{decision_one}
use Rattle.mgs_policy.proofs.decision.decide_right.Goals as goal

pub returns : goal.returns
returns c =
    let d = c.args.directory.now in
    let o = c.args.owners.now in
    c.decide.ensures
    ∙ ap (λ (g : Option (List ℕ)). decision d (owners_of o.owner g) c.args.user.now c.args.list.now c.of.result) c.as_ref-group.ensures.value
    ∙ ap (λ (mask : ℕ). decision d o c.args.user.now c.args.list.now mask) c.of.ensures
    ∙ decision_one d o c.args.user.now c.args.list.now c.args.right
