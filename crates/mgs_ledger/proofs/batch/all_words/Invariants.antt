use Rattle.std.proofs.Common.{◌≡◌, ◌++◌, drop, map}
use Rattle.mgs_ledger.specs.Gathering.{told_row}
use Rattle.mgs_ledger.specs.Keeping.{word_values}
use Rattle.mgs_ledger.proofs.batch.all_words.Given as goal

-- the rows that are made, and those of what is left, are the rows of all
abbrev pub invariant-loop-event : goal.invariant-loop-event
invariant-loop-event l = map word_values l.all.items ++ map told_row (drop l.event-index l.gathered) ≡ map told_row l.gathered
