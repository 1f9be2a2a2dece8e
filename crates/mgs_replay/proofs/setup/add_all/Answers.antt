use Rattle.std.proofs.Common.{arith, List}
use Rattle.mgs_buffers.specs.MarkedBuffer.{MarkedBuffer}
use Rattle.mgs_replay.proofs.Fits.{no_fault, only_short}
use Rattle.mgs_replay.proofs.setup.add_all.Goals as goal

pub returns-in-Err-clause-fault : goal.returns-in-Err-clause-fault
returns-in-Err-clause-fault g c =
    only_short (List MarkedBuffer) c.in-Err.fault _ c.in-Err.ensures.answer
    (cc (no_fault c.args.drafts.now c.loop-draft.draft-index c.draft-item.result (omega arith) c.requires))
