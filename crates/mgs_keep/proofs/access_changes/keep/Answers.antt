use Rattle.mgs_keep.specs.Keeping.{FailsOrCrowds, HasChanged, rows_in}
use Rattle.mgs_keep.proofs.Asking.{gave_up, none_changed, took}
use Rattle.mgs_keep.proofs.access_changes.keep.Goals as goal
use Rattle.mgs_keep.proofs.access_changes.keep.Goals.{then-failed-via-then-failed, then-failed-via-else-failed+then-not-ruled}

pub returns-then-failed-clause-journal : goal.returns-then-failed-clause-journal
returns-then-failed-clause-journal g c =
    let fails = FailsOrCrowds g.J.Journal.fails g.J.Journal.rows (rows_in c.args.engine.now) in
    let asked = HasChanged g.J.Journal.rows g.J.Journal.does c.args.user.now c.args.engine.now in
    elim c.then-failed.branch [
      | then-failed-via-then-failed w ↦ gave_up fails asked c.args.failed.now c.args.journal.now w.if-failed.true
      | then-failed-via-else-failed+then-not-ruled w ↦
          took fails asked c.args.failed.now c.args.journal.now c.args.journal.now w.if-failed.false
          (none_changed g.J.Journal.does g.J.Journal.rows c.args.user.now c.args.engine.now c.args.journal.now (c.requires w.if-not-ruled.true w.if-failed.false))
    ]
