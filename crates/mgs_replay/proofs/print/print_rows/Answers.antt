use Rattle.std.proofs.Common.{rules}
use Rattle.mgs_replay.proofs.Rows.{row_more}
use Rattle.mgs_replay.proofs.print.print_rows.Goals as goal

pub loop-preserved : goal.loop-preserved
loop-preserved c = row_more c.args.rows c.loop.counter c.args.cols c.loop.left.now c.split_at.result.0.now c.split_at.result.1.now _ c.loop.out.items _ c.loop-test.true (search rules) (search rules) (search rules) c.loop.invariant
