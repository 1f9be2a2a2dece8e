use Rattle.mgs_buffers.specs.MarkedBuffer.{AreUnmarked}
use Rattle.mgs_hostile_tests.proofs.stage.buffers_of.Given as goal

abbrev pub invariant-loop-line : goal.invariant-loop-line
invariant-loop-line g l = record { unmarked : AreUnmarked l.buffers }
