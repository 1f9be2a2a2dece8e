use Rattle.std.proofs.Common.{[], ◌++◌, rules, refl}
use Rattle.mgs_keep.specs.Ends.{listed}
use Rattle.mgs_keep.specs.Keeping.{WereTold}
use Rattle.mgs_keep.proofs.Asking.{asks_nothing, asks_then, told_then}
use Rattle.mgs_keep.proofs.EventDeeds.{told_more}
use Rattle.mgs_keep.proofs.tellings.tell_each.Goals as goal

pub loop-deed-init : goal.loop-deed-init
loop-deed-init g c = record {
  kept = λ e. refl;
  journal = ([], refl, asks_nothing g.J.Journal.fails (WereTold g.J.Journal.does []) c.args.failed.now c.args.journal.now refl);
}

pub loop-deed-preserved : goal.loop-deed-preserved
loop-deed-preserved g c =
    let before = c.loop-deed.invariant.journal in
    let told = c.deed_told in
    record {
      kept = search rules;
      journal = (
        before.0 ++ listed told.result,
        told_more c.args.user c.args.deeds.now c.loop-deed.deed-index _ told.result before.0 _ c.loop-deed-test.true c.deed-item.is told.ensures before.1,
        asks_then g.J.Journal.fails (WereTold g.J.Journal.does before.0) (WereTold g.J.Journal.does (listed told.result)) (WereTold g.J.Journal.does (before.0 ++ listed told.result)) c.args.failed.now c.loop-deed.failed c.tell.new.failed
            c.args.journal.now c.loop-deed.journal c.tell.new.journal
            (λ p q. told_then g.J.Journal.does before.0 (listed told.result) c.args.journal.now c.loop-deed.journal c.tell.new.journal p q) before.2 c.tell.ensures.journal,
      );
    }
