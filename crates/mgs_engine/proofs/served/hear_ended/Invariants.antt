use Rattle.std.proofs.Common.{◌≡◌, length}
use Rattle.mgs_engine.proofs.served.hear_ended.Given as goal

abbrev pub decreases-loop : goal.decreases-loop
decreases-loop g l = length l.engine.ended

abbrev pub invariant-loop : goal.invariant-loop
invariant-loop g l = l.engine ≡ record l.initial.engine { ended = l.engine.ended }
