use Rattle.mgs_script.proofs.Feeds.{lines_cut}
use Rattle.std.proofs.Common.{Ok, Err}
use Rattle.mgs_replay.proofs.Standing.{written_on, written_set, unserved}
use Rattle.mgs_replay.proofs.lines.play.Goals as goal

pub returns-in-Ok-None-clause-written : goal.returns-in-Ok-None-clause-written
returns-in-Ok-None-clause-written g c =
    written_set (Ok tt) c.new-setup.result c.args.script.now (g.W.Write.contents c.args.writer.now) c.new-setup.ensures (rw c.in-Ok-None.field-0-is at c.in-Ok-None.ensures.sets)

pub returns-in-Err-clause-written : goal.returns-in-Err-clause-written
returns-in-Err-clause-written g c =
    written_set (Err c.in-Err.fault) c.new-setup.result c.args.script.now (g.W.Write.contents c.args.writer.now) c.new-setup.ensures c.in-Err.ensures.sets

pub returns-in-Ok-clause-written : goal.returns-in-Ok-clause-written
returns-in-Ok-clause-written g c =
    let sets = rw c.in-Ok-Some.field-0-is at c.in-Ok-Some.ensures.sets in
    let on = rw c.in-Ok.ensures.world at c.run_lines.ensures.written in
    written_on c.run_lines.result c.in-Ok-Some.number c.new-setup.result c.set_up.new.setup c.args.script.now c.in-Ok-Some.text.now
    (g.W.Write.contents c.args.writer.now) (g.W.Write.contents c.run_lines.new.writer) c.new-setup.ensures sets.0 sets.1 (lines_cut c.in-Ok-Some.text.now) on

pub returns-in-Err-server_of-clause-written : goal.returns-in-Err-server_of-clause-written
returns-in-Err-server_of-clause-written g c =
    let sets = rw c.in-Ok-Some.field-0-is at c.in-Ok-Some.ensures.sets in
    unserved c.in-Ok-Some.number c.new-setup.result c.set_up.new.setup c.args.script.now c.in-Ok-Some.text.now (g.W.Write.contents c.args.writer.now) c.new-setup.ensures sets.0 sets.1 (lines_cut c.in-Ok-Some.text.now)
