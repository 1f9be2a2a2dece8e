use Rattle.std.proofs.Common.{sym, ◌∙◌}
use Rattle.mgs_seek.proofs.Targets.{away_fails, each_fails}
use Rattle.mgs_seek.proofs.target.sought.Goals as goal

pub returns-in-Err-clause-err : goal.returns-in-Err-clause-err
returns-in-Err-clause-err g c = each_fails c.args.directory.now c.args.buffers.now c.args.session.now c.args.writes c.in-Err.message c.in-Err.ensures.err

pub returns-else-is_sought-clause-err : goal.returns-else-is_sought-clause-err
returns-else-is_sought-clause-err g c =
    away_fails c.args.directory.now c.args.buffers.now c.args.session.now c.args.writes c.in-Ok.window_marks c.in-Ok.ensures.ok (sym c.is_sought.ensures ∙ c.if-is_sought.false)
