use Rattle.std.proofs.Common.{◌≡◌, ◌++◌, drop, map}
use Rattle.mgs_tables.specs.Rows.{event_values}
use Rattle.mgs_ledger.specs.Keeping.{word_values}
use Rattle.mgs_ledger.proofs.batch.rows_of.Given as goal

-- what was lent, and what is left, are all rows
abbrev pub invariant-loop-words : goal.invariant-loop-words
invariant-loop-words l = map event_values l.rows.items ++ map word_values (drop l.words-index l.all) ≡ map word_values l.all
