use Rattle.std.proofs.Common.{◌≡◌, ◌++◌, drop, map}
use Rattle.mgs_tables.specs.Rows.{rights_read}
use Rattle.mgs_ledger.specs.Reading.{AreUnborn, row_values}
use Rattle.mgs_ledger.proofs.stored_rights.read_rows.Given as goal

-- what was read, and what is left, are all rows
abbrev pub invariant-loop-row : goal.invariant-loop-row
invariant-loop-row l = AreUnborn l.values.items × (map row_values l.values.items ++ map rights_read (drop l.row-index l.rows) ≡ map rights_read l.rows)
