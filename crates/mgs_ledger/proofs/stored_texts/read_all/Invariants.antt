use Rattle.std.proofs.Common.{◌≡◌, ◌++◌, map}
use Rattle.mgs_tables.specs.Rows.{text_read}
use Rattle.mgs_ledger.specs.Snapshots.{read_values}
use Rattle.mgs_ledger.proofs.stored_texts.read_all.Given as goal

-- what was read, and what is left, are all texts
abbrev pub invariant-loop-text : goal.invariant-loop-text
invariant-loop-text l = map read_values l.values.items ++ map text_read l.text-iterator.rest.items ≡ map text_read l.fn.texts.items
