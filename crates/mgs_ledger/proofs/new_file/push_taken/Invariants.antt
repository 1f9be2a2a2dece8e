use Rattle.std.proofs.Common.{◌≡◌, ◌++◌, drop, map}
use Rattle.mgs_ledger.specs.Keeping.{word_values}
use Rattle.mgs_ledger.specs.NewFile.{taken_event}
use Rattle.mgs_ledger.proofs.new_file.push_taken.Given as goal

-- the events that are there, and those of the names that are left, are all events
abbrev pub invariant-loop-name : goal.invariant-loop-name
invariant-loop-name l = map word_values l.events.items ++ map (taken_event l.at) (drop l.name-index l.taken) ≡ map word_values l.fn.events.items ++ map (taken_event l.at) l.taken
