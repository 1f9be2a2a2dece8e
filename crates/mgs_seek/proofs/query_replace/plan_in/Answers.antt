use Rattle.mgs_seek.proofs.Replaces.{planned_err, planned_ok, sought_fails}
use Rattle.mgs_seek.proofs.query_replace.plan_in.Goals as goal

pub returns-in-Err-clause-err : goal.returns-in-Err-clause-err
returns-in-Err-clause-err g c = sought_fails c.args.directory.now c.args.buffers.now c.args.session.now c.args.last c.in-Err.message c.in-Err.ensures.err

pub returns-in-Replace-clause-ok : goal.returns-in-Replace-clause-ok
returns-in-Replace-clause-ok g c = planned_ok c.args.directory.now c.args.buffers.now c.args.session.now c.in-Ok.window_marks c.in-Some.search c.in-Replace.replacing c.args.last c.in-Ok.ensures.ok c.in-Some.is c.in-Replace.is c.plan_at.result c.plan_at.ensures.window c.plan_at.ensures.ok

pub returns-in-Replace-clause-err : goal.returns-in-Replace-clause-err
returns-in-Replace-clause-err g c = planned_err c.args.directory.now c.args.buffers.now c.args.session.now c.in-Ok.window_marks c.in-Some.search c.in-Replace.replacing c.args.last c.in-Ok.ensures.ok c.in-Some.is c.in-Replace.is c.plan_at.result c.plan_at.ensures.err
