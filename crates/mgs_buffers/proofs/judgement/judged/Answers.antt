use Rattle.std.proofs.Common.{ℕ, List, Option, sym, subst, ap, ◌∙◌}
use Rattle.mgs_model.specs.Access.{decision, owners_of}
use Rattle.mgs_cache.specs.Kept.{AreRight}
use Rattle.mgs_buffers.proofs.Judged.{judged_with, one_right}
use Rattle.mgs_buffers.proofs.judgement.judged.Goals as goal

pub decide-requires : goal.decide-requires
decide-requires c =
    let owner = c.args.owners.now.owner in
    subst (λ (group : Option (List ℕ)). AreRight c.args.place c.args.directory.now (owners_of owner group) c.args.list.now c.args.judge.now) (sym c.as_ref-group.ensures.value) c.requires

pub returns-clause-value : goal.returns-clause-value
returns-clause-value c =
    let owner = c.args.owners.now.owner in
    c.decide.ensures.value
    ∙ ap (λ (group : Option (List ℕ)). decision c.args.directory.now (owners_of owner group) c.args.user.now c.args.list.now c.of.result) c.as_ref-group.ensures.value
    ∙ ap (λ (mask : ℕ). decision c.args.directory.now c.args.owners.now c.args.user.now c.args.list.now mask) c.of.ensures
    ∙ one_right c.args.directory.now c.args.owners.now c.args.user.now c.args.list.now c.args.right

pub returns-clause-stays : goal.returns-clause-stays
returns-clause-stays c =
    let owner = c.args.owners.now.owner in
    judged_with c.args.place c.args.directory.now c.args.owners.now c.args.user.now c.args.list.now c.of.result c.decide.result c.args.judge.now c.decide.new.self c.decide.ensures.kept
    (c.decide.ensures.value ∙ ap (λ (group : Option (List ℕ)). decision c.args.directory.now (owners_of owner group) c.args.user.now c.args.list.now c.of.result) c.as_ref-group.ensures.value)
