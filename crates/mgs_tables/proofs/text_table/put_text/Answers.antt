use Rattle.std.proofs.Common.{◌≡◌, [], ◌∷◌, map, subst, rules}
use Rattle.sqlite.specs.State.{Survives}
use Rattle.sqlite.specs.Values.{bound}
use Rattle.sqlite.specs.Held.{state}
use Rattle.mgs_tables.specs.Both.{RanWith, Left, FindsNone}
use Rattle.mgs_tables.specs.Texts.{replace_text}
use Rattle.mgs_tables.specs.Rows.{event_values, text_values}
use Rattle.mgs_tables.proofs.text_table.put_text.Goals as goal

pub returns-clause-missing : goal.returns-clause-missing
returns-clause-missing g c clean none =
    let old = c.args.conn.now in
    let values : bound (c.params-to_sql.result ∷ c.params-to_sql-2.result ∷ c.params-to_sql-3.result ∷ c.params-to_sql-4.result ∷ []) ≡ text_values c.args.text.now =
    rw (c.params-to_sql.ensures, c.params-to_sql-2.ensures, c.params-to_sql-3.ensures, c.params-to_sql-4.ensures) (search rules) in
    subst (λ row. FindsNone g.S.Store replace_text row old) values (c.write_with.ensures.missing clean none)

pub returns-clause-crash : goal.returns-clause-crash
returns-clause-crash g c =
    let old = c.args.conn.now in
    let new = c.write_with.new.conn in
    let values : bound (c.params-to_sql.result ∷ c.params-to_sql-2.result ∷ c.params-to_sql-3.result ∷ c.params-to_sql-4.result ∷ []) ≡ text_values c.args.text.now =
    rw (c.params-to_sql.ensures, c.params-to_sql-2.ensures, c.params-to_sql-3.ensures, c.params-to_sql-4.ensures) (search rules) in
    subst (λ row. Survives (state g.S.Store old) (state g.S.Store new) (Left (RanWith g.S.Store replace_text row (map event_values c.args.events.now) old))) values c.write_with.ensures.crash
