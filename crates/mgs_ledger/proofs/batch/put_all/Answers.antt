use Rattle.std.proofs.Common.{◌≡◌, map, subst₂, rules}
use Rattle.sqlite.specs.Held.{state}
use Rattle.mgs_tables.specs.Changes.{RanChanges, statement_of}
use Rattle.mgs_tables.specs.Rows.{event_values}
use Rattle.mgs_ledger.specs.Keeping.{planned_statement, word_values}
use Rattle.mgs_ledger.proofs.batch.put_all.Goals as goal

pub returns-clause-done : goal.returns-clause-done
returns-clause-done g c clean =
    let now = (state g.S.Store c.put_changes.new.conn).committed in
    let changes : map statement_of c.as_slice.result.now ≡ map planned_statement c.args.planned.now = search rules in
    let told : map event_values c.as_slice-2.result.now ≡ map word_values c.args.all.now = search rules in
    subst₂ (λ statements events. RanChanges g.S.Store statements events c.args.conn.now now) changes told (c.in_ok-put_changes.ensures.all clean)
