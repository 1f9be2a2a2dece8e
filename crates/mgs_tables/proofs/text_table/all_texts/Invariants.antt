use Rattle.std.proofs.Common.{◌≡◌, ◌++◌, drop, map}
use Rattle.mgs_tables.specs.Rows.{text_read, text_columns}
use Rattle.mgs_tables.proofs.text_table.all_texts.Given as goal

-- what was read, and what is left, are all rows
abbrev pub invariant-loop-row : goal.invariant-loop-row
invariant-loop-row l = map text_read l.all.items ++ map text_columns (drop l.row-index l.rows) ≡ map text_columns l.rows
