use Rattle.std.proofs.Common.{◌∙◌, arith}
use Rattle.mgs_config.proofs.Filling.{loop_buffers, loop_none, loop_refused}
use Rattle.mgs_config.proofs.fill.read_buffers.Goals as goal

pub returns-in-Err-clause-err : goal.returns-in-Err-clause-err
returns-in-Err-clause-err g c = λ long.
    loop_refused _ _ _ _ _ c.args.rows.now c.loop-before.before c.index-rows-before.result c.loop-before.buffers c.in-Err.fault (omega arith) c.index-rows-before.is c.loop-before.invariant.same c.loop-before.invariant.kept
    c.loop-before.invariant.buffers c.loop-before.invariant.none (c.in-Err.ensures.err long)

pub returns-in-Err-clause-kept : goal.returns-in-Err-clause-kept
returns-in-Err-clause-kept g c = λ path text given. c.loop-before.invariant.kept path text (c.add_buffer.ensures.kept path text given)

pub loop-before-preserved : goal.loop-before-preserved
loop-before-preserved g c = record {
  buffers = loop_buffers _ _ _ _ c.args.rows.now c.loop-before.before c.index-rows-before.result c.loop-before.buffers c.add_buffer.new.buffers (omega arith) c.index-rows-before.is c.loop-before.invariant.same c.loop-before.invariant.kept
      c.loop-before.invariant.buffers c.in-Ok.ensures.added;
  unmarked = c.add_buffer.ensures.unmarked c.loop-before.invariant.unmarked;
  same = c.add_buffer.ensures.same ∙ c.loop-before.invariant.same;
  kept = λ path text given. c.loop-before.invariant.kept path text (c.add_buffer.ensures.kept path text given);
  count = c.in-Ok.ensures.read ∙ c.loop-before.invariant.count;
  none = loop_none _ _ _ _ c.args.rows.now c.loop-before.before c.index-rows-before.result c.loop-before.buffers (omega arith) c.index-rows-before.is c.loop-before.invariant.same c.loop-before.invariant.buffers c.in-Ok.ensures.due c.in-Ok.ensures.none c.loop-before.invariant.none;
}
