use Rattle.std.proofs.Common.{◌≡◌, drop}
use Rattle.mgs_ledger.specs.Taken.{page_noted}
use Rattle.mgs_ledger.proofs.taken.note_page.Given as goal

-- what the events that are left make of the names is what all make of them
abbrev pub invariant-loop-event : goal.invariant-loop-event
invariant-loop-event l = page_noted l.names.items (drop l.event-index l.events) ≡ page_noted l.fn.names.items l.events
