use Rattle.mgs_tables.proofs.row_changes.update_row.Goals as goal

pub returns-clause-runs : goal.returns-clause-runs
returns-clause-runs g c = rw (c.params-to_sql.ensures, c.params-to_sql-2.ensures, c.params-to_sql-3.ensures, c.params-to_sql-4.ensures) at c.change_one.ensures.runs

pub returns-clause-missing : goal.returns-clause-missing
returns-clause-missing g c = rw (c.params-to_sql.ensures, c.params-to_sql-2.ensures, c.params-to_sql-3.ensures, c.params-to_sql-4.ensures) at c.change_one.ensures.missing
