use Rattle.std.proofs.Common.{◌≡◌, ◌++◌, drop, map}
use Rattle.mgs_tables.specs.Rows.{event_read, event_columns}
use Rattle.mgs_tables.proofs.contents.all_events.Given as goal

-- what was read, and what is left, are all rows
abbrev pub invariant-loop-row : goal.invariant-loop-row
invariant-loop-row l = map event_read l.all.items ++ map event_columns (drop l.row-index l.rows) ≡ map event_columns l.rows
