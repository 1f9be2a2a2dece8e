use Rattle.std.proofs.Common.{◌≡◌, take}
use Rattle.mgs_term.specs.Automaton.{fed, terminal_of}
use Rattle.mgs_term.specs.Terminal.{TakesAll}
use Rattle.mgs_term.proofs.machine.Machine.feed_all.Given as goal

abbrev pub invariant-loop-byte : goal.invariant-loop-byte
invariant-loop-byte l = record {
  fed : l.self ≡ fed l.fn.self (take l.byte-index l.bytes);
  takes : TakesAll (terminal_of l.fn.self) (take l.byte-index l.bytes) (terminal_of l.self);
}
