use Rattle.mgs_wire.proofs.Appending.{appends_more, within_more}
use Rattle.mgs_wire.proofs.Putting.{put_all, put_err, put_more, put_none}
use Rattle.mgs_wire.specs.declared.pump.PumpedOut.TheVariants as out
use Rattle.mgs_wire.proofs.pump.write_some.Goals as goal

pub loop-count-preserved : goal.loop-count-preserved
loop-count-preserved g c = record {
  within = within_more c.args.bytes.now _ _ c.loop-count.invariant.within c.in-Ok.ensures.bound;
  written = appends_more _ _ _ c.args.bytes.now _ _ c.loop-count.invariant.written c.in-Ok.ensures.bytes;
  put = λ outcome k new p. put_more g.W.Stream.answers c.args.bytes.now c.loop-count.count c.in-Ok.n k outcome c.args.writer.now _ _ new (λ m q. c.loop-count.invariant.put outcome m new q) c.in-Ok.ensures.answered p;
}

pub returns-in-Ok-eq0-clause-put : goal.returns-in-Ok-eq0-clause-put
returns-in-Ok-eq0-clause-put g c = put_none g.W.Stream.answers c.args.bytes.now c.loop-count.count c.args.writer.now _ _ (λ m q. c.loop-count.invariant.put out.Failed m _ q) c.loop-count-test.true _ c.in-Ok-eq0.field-0-test c.in-Ok-eq0.ensures.answered

pub returns-in-Err-clause-put : goal.returns-in-Err-clause-put
returns-in-Err-clause-put g c = put_err g.W.Stream.answers c.args.bytes.now c.loop-count.count c.in-Err.e c.stop_of.result c.args.writer.now _ _ (λ m q. c.loop-count.invariant.put c.stop_of.result m _ q) c.loop-count-test.true c.in-Err.ensures.answered c.stop_of.ensures

pub returns-clause-put : goal.returns-clause-put
returns-clause-put g c = put_all g.W.Stream.answers c.args.bytes.now c.loop-count.count c.args.writer.now c.loop-count.writer (λ m q. c.loop-count.invariant.put out.Drained m _ q) c.loop-count-test.false
