use Rattle.mgs_keeper.proofs.Rows.{not_given}
use Rattle.mgs_keeper.proofs.repair.give_from.Goals as goal

pub returns-clause-rows : goal.returns-clause-rows
returns-clause-rows g c = not_given c.args.old.now c.args.new (g.J.Journal.rows c.args.journal.now) c.args.i c.is_owned.result c.is_owned.ensures c.if-is_owned.false
