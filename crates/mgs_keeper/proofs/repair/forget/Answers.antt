use Rattle.mgs_keeper.proofs.Faults.{forget_failed}
use Rattle.mgs_keeper.proofs.repair.forget.Goals as goal

pub returns-clause-fault : goal.returns-clause-fault
returns-clause-fault g c =
    forget_failed (g.J.Journal.rows c.args.journal.now) (g.J.Journal.texts c.args.journal.now) (g.J.Journal.taken c.args.journal.now) c.args.config.now c.args.may_discard c.args.buffer.now
    c.mend_answer.result c.mend_answer.ensures.failed
