use Rattle.std.proofs.Common.{◌≡◌, ◌++◌, drop, map}
use Rattle.mgs_tables.specs.Changes.{statement_of}
use Rattle.mgs_ledger.specs.Keeping.{planned_statement}
use Rattle.mgs_ledger.proofs.planned.lent_rows.Given as goal

-- what was lent, and what is left, are all statements
abbrev pub invariant-loop-row : goal.invariant-loop-row
invariant-loop-row l = map statement_of l.rows.items ++ map planned_statement (drop l.row-index l.planned) ≡ map planned_statement l.planned
