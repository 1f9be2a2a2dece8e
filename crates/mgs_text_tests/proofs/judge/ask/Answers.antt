use Rattle.std.proofs.Common.{◌≡◌, ℕ, List, Option, subst}
use Rattle.mgs_model.specs.Access.{decision, owners_of}
use Rattle.mgs_cache.proofs.Rightness.{right_here, right_elsewhere}
use Rattle.mgs_text_tests.proofs.judge.ask.Goals as goal

pub loop-user-preserved : goal.loop-user-preserved
loop-user-preserved g c =
    let users = c.args.directory.now in
    let owners = c.args.owners.now in
    let user = c.loop-user-item.result.0 in
    let answer = c.decide-answer.result in
    record {
      right = right_here c.args.place users owners user c.args.list.now _ answer c.decide-answer.new.self c.loop-user.judge
          c.decide-answer.ensures.kept
          (subst (λ (group : Option (List ℕ)). answer ≡ decision users (owners_of owners.owner group) user c.args.list.now c.from_bits-mask.result)
          c.as_ref-group.ensures.value c.decide-answer.ensures.value)
          c.loop-user.invariant.right;
      others = λ other directory whose entries apart were.
          right_elsewhere c.args.place other user _ answer directory whose entries c.decide-answer.new.self c.loop-user.judge
          c.decide-answer.ensures.kept apart (c.loop-user.invariant.others other directory whose entries apart were);
    }
