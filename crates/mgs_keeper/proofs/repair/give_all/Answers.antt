use Rattle.std.proofs.Common.{◌≡◌, ◌+◌, refl, rules, ◌∙◌}
use Rattle.mgs_keeper.proofs.Rows.{next_given}
use Rattle.mgs_keeper.proofs.repair.give_all.Goals as goal

pub loop-new-preserved : goal.loop-new-preserved
loop-new-preserved g c =
    let next : c.in-Some.next ≡ c.loop-new.i + 1 = search rules in record {
      rows = next_given c.args.old.now c.args.new (g.J.Journal.rows c.loop-new.journal) (g.J.Journal.rows c.args.journal.now) (g.J.Journal.rows c.give_from.new.journal) c.loop-new.i c.in-Some.next
          (c.loop-new-test.ensures.there refl) next c.in_ok-give_from.ensures.rows c.loop-new.invariant.rows;
      texts = c.in_ok-give_from.ensures.texts ∙ c.loop-new.invariant.texts;
      taken = λ name. c.in_ok-give_from.ensures.taken name ∙ c.loop-new.invariant.taken name;
    }
