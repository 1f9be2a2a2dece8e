use Rattle.std.proofs.Common.{ℕ, ◌≤◌, ◌-◌, ◌+◌, length, take, drop}
use Rattle.std.specs.Io.KnownBytes.{Appends}
use Rattle.mgs_wire.specs.declared.pump.PumpedOut.{PumpedOut}
use Rattle.mgs_wire.specs.Pumps.{Put}
use Rattle.mgs_wire.proofs.pump.write_some.Given as goal

-- a first part was written; how the rest is written, all is
abbrev pub invariant-loop-count : goal.invariant-loop-count
invariant-loop-count g l = record {
  within : l.count ≤ length l.bytes;
  written : Appends (g.W.Write.contents l.fn.writer) (g.W.Write.contents l.writer) (take l.count l.bytes);
  put : (outcome : PumpedOut) (n : ℕ) (new : _) → Put g.W.Stream.answers (drop l.count l.bytes) outcome n l.writer new → Put g.W.Stream.answers l.bytes outcome (l.count + n) l.fn.writer new;
}

abbrev pub decreases-loop-count : goal.decreases-loop-count
decreases-loop-count g l = length l.bytes - l.count
