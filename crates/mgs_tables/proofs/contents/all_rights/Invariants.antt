use Rattle.std.proofs.Common.{◌≡◌, ◌++◌, drop, map}
use Rattle.mgs_tables.specs.Rows.{rights_read, rights_columns}
use Rattle.mgs_tables.proofs.contents.all_rights.Given as goal

-- what was read, and what is left, are all rows
abbrev pub invariant-loop-row : goal.invariant-loop-row
invariant-loop-row l = map rights_read l.all.items ++ map rights_columns (drop l.row-index l.rows) ≡ map rights_columns l.rows
