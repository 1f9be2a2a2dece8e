use Rattle.std.proofs.Common.{[], ◌++◌, rules, refl, ap}
use Rattle.mgs_engine.specs.Serving.{Serving}
use Rattle.mgs_keep.specs.Ends.{listed}
use Rattle.mgs_keep.specs.Keeping.{WereTold}
use Rattle.mgs_keep.proofs.Asking.{asks_nothing, asks_then, told_then}
use Rattle.mgs_keep.proofs.Ends.{left_next, told_next}
use Rattle.mgs_keep.proofs.kept.tell_all.Goals as goal

pub loop-id-init : goal.loop-id-init
loop-id-init g c = record {
  engine = refl;
  users = refl;
  kept = λ e. refl;
  journal = ([], refl, asks_nothing g.J.Journal.fails (WereTold g.J.Journal.does []) c.args.failed.now c.args.journal.now refl);
}

pub loop-id-preserved : goal.loop-id-preserved
loop-id-preserved g c =
    let before = c.loop-id.invariant.journal in
    let first = c.in-Some.ensures.first in
    let rest = ap (λ (s : Serving). s.ended) c.in-Some.ensures.rest in
    let told = c.take-ended in
    record {
      engine = search rules;
      users = left_next _ _ _ _ told.ensures.left _ _ _ first rest c.loop-id.invariant.users;
      kept = search rules;
      journal = (
        before.0 ++ listed told.result,
        told_next _ _ _ _ told.ensures.left _ _ before.0 _ told.result first rest told.ensures.told before.1,
        asks_then g.J.Journal.fails (WereTold g.J.Journal.does before.0) (WereTold g.J.Journal.does (listed told.result)) (WereTold g.J.Journal.does (before.0 ++ listed told.result)) c.args.failed.now c.loop-id.failed c.tell.new.failed
            c.args.journal.now c.loop-id.journal c.tell.new.journal
            (λ p q. told_then g.J.Journal.does before.0 (listed told.result) c.args.journal.now c.loop-id.journal c.tell.new.journal p q) before.2 c.tell.ensures.journal,
      );
    }
