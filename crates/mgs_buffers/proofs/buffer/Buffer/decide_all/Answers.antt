use Rattle.std.proofs.Common.{◌∙◌, ℕ, List, Option, ap}
use Rattle.mgs_model.specs.Access.{decision, owners_of}
use Rattle.mgs_buffers.proofs.buffer.Buffer.decide_all.Goals as goal

pub returns : goal.returns
returns g c =
    c.decide.ensures
    ∙ ap (λ (group : Option (List ℕ)). decision c.args.directory.now (owners_of c.args.self.now.owners.owner group) c.args.user.now c.args.self.now.list c.args.mask) c.as_ref-group.ensures.value
