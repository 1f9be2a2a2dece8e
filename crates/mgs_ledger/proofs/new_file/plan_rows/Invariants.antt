use Rattle.std.proofs.Common.{◌≡◌, ◌++◌, drop, map}
use Rattle.mgs_ledger.specs.Keeping.{planned_statement}
use Rattle.mgs_ledger.specs.NewFile.{added_row}
use Rattle.mgs_ledger.proofs.new_file.plan_rows.Given as goal

-- what is planned, and what is left, are all rows
abbrev pub invariant-loop-row : goal.invariant-loop-row
invariant-loop-row l = map planned_statement l.planned.items ++ map added_row (drop l.row-index l.rows) ≡ map added_row l.rows
