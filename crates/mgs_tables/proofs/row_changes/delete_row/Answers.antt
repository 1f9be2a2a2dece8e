use Rattle.mgs_tables.proofs.row_changes.delete_row.Goals as goal

pub returns-clause-runs : goal.returns-clause-runs
returns-clause-runs g c = rw c.params-to_sql.ensures at c.change_one.ensures.runs

pub returns-clause-missing : goal.returns-clause-missing
returns-clause-missing g c = rw c.params-to_sql.ensures at c.change_one.ensures.missing
