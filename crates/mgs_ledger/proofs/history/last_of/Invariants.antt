use Rattle.std.proofs.Common.{◌≡◌, drop}
use Rattle.mgs_ledger.specs.Taken.{last_number}
use Rattle.mgs_ledger.proofs.history.last_of.Given as goal

-- the last number of what is left is that of all
abbrev pub invariant-loop-event : goal.invariant-loop-event
invariant-loop-event l = last_number l.last (drop l.event-index l.events) ≡ last_number l.fn.last l.events
