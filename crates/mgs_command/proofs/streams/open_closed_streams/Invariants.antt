use Rattle.std.proofs.Common.{◌≤◌}
use Rattle.std.specs.Prelude.{IfSome}
use Rattle.mgs_command.proofs.streams.open_closed_streams.Given as goal

-- the streams so far are open
abbrev pub invariant-loop-stream : goal.invariant-loop-stream
invariant-loop-stream g l = record { above : IfSome (g.N.OpensNull.free l.nulls) (λ number. l.stream ≤ number) }
