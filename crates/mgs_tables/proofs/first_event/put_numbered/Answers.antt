use Rattle.std.proofs.Common.{◌≡◌, [], ◌∷◌, map, subst, rules, OnOk}
use Rattle.sqlite.specs.declared.types.Value.TheVariants.{Int}
use Rattle.sqlite.specs.State.{Survives}
use Rattle.sqlite.specs.Values.{bound}
use Rattle.sqlite.specs.Held.{state}
use Rattle.mgs_tables.specs.Both.{RanWith, Left, FindsNone}
use Rattle.mgs_tables.specs.Texts.{insert_numbered}
use Rattle.mgs_tables.specs.Rows.{event_values}
use Rattle.mgs_tables.proofs.first_event.put_numbered.Goals as goal

pub returns-clause-both : goal.returns-clause-both
returns-clause-both g c clean =
    let old = c.args.conn.now in
    let new = c.write_with.new.conn in
    let values : bound (c.params-to_sql.result ∷ c.params-to_sql-2.result ∷ c.params-to_sql-3.result ∷ c.params-to_sql-4.result ∷ c.params-to_sql-5.result ∷ c.params-to_sql-6.result ∷ []) ≡ Int c.args.number ∷ event_values c.args.first.now =
    rw (c.params-to_sql.ensures, c.params-to_sql-2.ensures, c.params-to_sql-3.ensures, c.params-to_sql-4.ensures, c.params-to_sql-5.ensures, c.params-to_sql-6.ensures) (search rules) in
    subst (λ row. OnOk c.write_with.result (RanWith g.S.Store insert_numbered row (map event_values c.args.others.now) old (state g.S.Store new).committed)) values (c.write_with.ensures.both clean)

pub returns-clause-missing : goal.returns-clause-missing
returns-clause-missing g c clean none =
    let old = c.args.conn.now in
    let values : bound (c.params-to_sql.result ∷ c.params-to_sql-2.result ∷ c.params-to_sql-3.result ∷ c.params-to_sql-4.result ∷ c.params-to_sql-5.result ∷ c.params-to_sql-6.result ∷ []) ≡ Int c.args.number ∷ event_values c.args.first.now =
    rw (c.params-to_sql.ensures, c.params-to_sql-2.ensures, c.params-to_sql-3.ensures, c.params-to_sql-4.ensures, c.params-to_sql-5.ensures, c.params-to_sql-6.ensures) (search rules) in
    subst (λ row. FindsNone g.S.Store insert_numbered row old) values (c.write_with.ensures.missing clean none)

pub returns-clause-crash : goal.returns-clause-crash
returns-clause-crash g c =
    let old = c.args.conn.now in
    let new = c.write_with.new.conn in
    let values : bound (c.params-to_sql.result ∷ c.params-to_sql-2.result ∷ c.params-to_sql-3.result ∷ c.params-to_sql-4.result ∷ c.params-to_sql-5.result ∷ c.params-to_sql-6.result ∷ []) ≡ Int c.args.number ∷ event_values c.args.first.now =
    rw (c.params-to_sql.ensures, c.params-to_sql-2.ensures, c.params-to_sql-3.ensures, c.params-to_sql-4.ensures, c.params-to_sql-5.ensures, c.params-to_sql-6.ensures) (search rules) in
    subst (λ row. Survives (state g.S.Store old) (state g.S.Store new) (Left (RanWith g.S.Store insert_numbered row (map event_values c.args.others.now) old))) values c.write_with.ensures.crash
