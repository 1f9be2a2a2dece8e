use Rattle.std.proofs.lemmas.Result.{IfOk-weaker}
use Rattle.mgs_tables.proofs.schema.table_count.Goals as goal

pub returns-in_err-query_row-clause-survives : goal.returns-in_err-query_row-clause-survives
returns-in_err-query_row-clause-survives g c = rw (c.params-to_sql.ensures, c.params-to_sql-2.ensures, c.params-to_sql-3.ensures, c.params-to_sql-4.ensures) at c.query_row.ensures.survives

pub returns-clause-shown : goal.returns-clause-shown
returns-clause-shown g c clean =
    let answer = rw (c.params-to_sql.ensures, c.params-to_sql-2.ensures, c.params-to_sql-3.ensures, c.params-to_sql-4.ensures) at (c.in_ok-query_row.ensures.row clean) in
    IfOk-weaker c.get-2.result _ _ (λ number read. record { row = c.in_ok-query_row.field-0; answer = answer; first = read.1 }) c.get-2.ensures.ok

pub returns-clause-survives : goal.returns-clause-survives
returns-clause-survives g c = rw (c.params-to_sql.ensures, c.params-to_sql-2.ensures, c.params-to_sql-3.ensures, c.params-to_sql-4.ensures) at c.query_row.ensures.survives
