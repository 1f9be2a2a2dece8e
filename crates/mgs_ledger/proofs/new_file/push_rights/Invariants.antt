use Rattle.std.proofs.Common.{◌≡◌, ◌++◌, drop, map}
use Rattle.mgs_ledger.specs.Keeping.{word_values}
use Rattle.mgs_ledger.specs.NewFile.{is_event}
use Rattle.mgs_ledger.proofs.new_file.push_rights.Given as goal

-- the events that are there, and those of the rows that are left, are all events
abbrev pub invariant-loop-row : goal.invariant-loop-row
invariant-loop-row l = map word_values l.events.items ++ map (is_event l.at) (drop l.row-index l.rows) ≡ map word_values l.fn.events.items ++ map (is_event l.at) l.rows
