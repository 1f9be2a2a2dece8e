use Rattle.std.proofs.Common.{arith}
use Rattle.mgs_replay.proofs.Mapped.{rest_more}
use Rattle.mgs_replay.proofs.Served.{taken_more}
use Rattle.mgs_replay.proofs.clients.Clients.take_all.Goals as goal

pub loop-labelled-preserved : goal.loop-labelled-preserved
loop-labelled-preserved g c = record {
  done = taken_more c.args.server.now c.loop-labelled.server c.take_labelled.new.server c.loop-labelled.labelled-items c.deref_mut-labelled-items.result.now c.loop-labelled.labelled-index c.labelled-item.result c.take_labelled.new.labelled
      (omega arith) (omega arith) c.in-Ok.ensures c.loop-labelled.invariant.done c.loop-labelled.invariant.rest;
  rest = rest_more c.loop-labelled.labelled-items c.deref_mut-labelled-items.result.now c.loop-labelled.labelled-index c.take_labelled.new.labelled
      c.loop-labelled.invariant.rest;
}
