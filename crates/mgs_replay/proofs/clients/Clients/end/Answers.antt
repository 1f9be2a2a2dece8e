use Rattle.std.proofs.Common.{arith}
use Rattle.mgs_replay.specs.Clients.{ended_by}
use Rattle.mgs_replay.proofs.Mapped.{mapped_more, rest_more}
use Rattle.mgs_replay.proofs.clients.Clients.end.Goals as goal

pub loop-labelled-preserved : goal.loop-labelled-preserved
loop-labelled-preserved c = record {
  done = mapped_more (ended_by c.args.label.now c.args.cause) c.loop-labelled.labelled-items c.deref_mut-labelled-items.result.now c.loop-labelled.labelled-index c.labelled-item.result c.end_labelled.new.labelled
      (omega arith) (omega arith) c.end_labelled.ensures c.loop-labelled.invariant.done c.loop-labelled.invariant.rest;
  rest = rest_more c.loop-labelled.labelled-items c.deref_mut-labelled-items.result.now c.loop-labelled.labelled-index c.end_labelled.new.labelled
      c.loop-labelled.invariant.rest;
}
