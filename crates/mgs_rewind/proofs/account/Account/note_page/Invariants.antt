use Rattle.std.proofs.Common.{◌≡◌, drop}
use Rattle.mgs_rewind.specs.Account.{accounted}
use Rattle.mgs_rewind.proofs.account.Account.note_page.Given as goal

-- what the events that are left make of the account is what all make of it
abbrev pub invariant-loop-event : goal.invariant-loop-event
invariant-loop-event l = accounted l.self (drop l.event-index l.events) ≡ accounted l.fn.self l.events
