use Rattle.std.proofs.Common.{◌≡◌, Err, map, sym, subst, arith, rules}
use Rattle.sqlite.specs.State.{HasCleanDisk, Survives}
use Rattle.sqlite.specs.Held.{state}
use Rattle.mgs_tables.specs.Both.{Left}
use Rattle.mgs_tables.specs.Changes.{RanChanges, FindsNoneAmong, statement_of}
use Rattle.mgs_tables.specs.Rows.{event_values}
use Rattle.mgs_tables.proofs.Transactions.{ran_changes, outlasts, stays_within}
use Rattle.std.proofs.lemmas.Result.{err_from_is_err_and}
use Rattle.mgs_tables.specs.declared.rows.Fault.TheVariants.{NoBuffer}
use Rattle.mgs_tables.proofs.row_changes.put_changes.Goals as goal

pub returns-clause-all : goal.returns-clause-all
returns-clause-all g c clean =
    let old = c.args.conn.now in
    let begun = c.transaction-tx.result.conn.now in
    let mid = c.change_all.new.tx.conn.now in
    let last = c.put_all.new.tx.conn.now in
    let end = c.commit.new.self.0 in
    let ran = RanChanges g.S.Store (map statement_of c.args.changes.now) (map event_values c.args.events.now) old in
    let all = ran_changes g.S.Store (map statement_of c.args.changes.now) (map event_values c.args.events.now) old begun mid last c.transaction-tx.ensures.begun
    c.in_ok-change_all.ensures.all c.in_ok-change_all.ensures.inside c.in_ok-put_all.ensures.all c.put_all.ensures.survives in
    let same : end ≡ c.conn-2-1.given.0 = search rules in
    let late : HasCleanDisk (state g.S.Store end) = search rules in
    subst (λ h. ran (state g.S.Store h).committed) same (subst ran (sym (c.in_ok-commit.ensures.ok late).1.committed_is) (all (omega (arith, c.commit.ensures.survives.clean))))

pub returns-clause-crash : goal.returns-clause-crash
returns-clause-crash g c =
    let old = c.args.conn.now in
    let begun = c.transaction-tx.result.conn.now in
    let mid = c.change_all.new.tx.conn.now in
    let last = c.put_all.new.tx.conn.now in
    let end = c.commit.new.self.0 in
    let ran = RanChanges g.S.Store (map statement_of c.args.changes.now) (map event_values c.args.events.now) old in
    let all = ran_changes g.S.Store (map statement_of c.args.changes.now) (map event_values c.args.events.now) old begun mid last c.transaction-tx.ensures.begun
    c.in_ok-change_all.ensures.all c.in_ok-change_all.ensures.inside c.in_ok-put_all.ensures.all c.put_all.ensures.survives in
    let same : end ≡ c.conn-2-1.given.0 = search rules in
    subst (λ h. Survives (state g.S.Store old) (state g.S.Store h) (Left ran)) same
    (outlasts g.S.Store ran old begun last end c.transaction-tx.ensures.begun all (stays_within g.S.Store begun mid last c.change_all.ensures.survives c.put_all.ensures.survives) c.commit.ensures.survives)

pub returns-in_err-commit-clause-crash : goal.returns-in_err-commit-clause-crash
returns-in_err-commit-clause-crash g c =
    let old = c.args.conn.now in
    let begun = c.transaction-tx.result.conn.now in
    let mid = c.change_all.new.tx.conn.now in
    let last = c.put_all.new.tx.conn.now in
    let end = c.commit.new.self.0 in
    let ran = RanChanges g.S.Store (map statement_of c.args.changes.now) (map event_values c.args.events.now) old in
    let all = ran_changes g.S.Store (map statement_of c.args.changes.now) (map event_values c.args.events.now) old begun mid last c.transaction-tx.ensures.begun
    c.in_ok-change_all.ensures.all c.in_ok-change_all.ensures.inside c.in_ok-put_all.ensures.all c.put_all.ensures.survives in
    let same : end ≡ c.conn-2-1.given.0 = search rules in
    subst (λ h. Survives (state g.S.Store old) (state g.S.Store h) (Left ran)) same
    (outlasts g.S.Store ran old begun last end c.transaction-tx.ensures.begun all (stays_within g.S.Store begun mid last c.change_all.ensures.survives c.put_all.ensures.survives) c.commit.ensures.survives)

pub returns-in_err-change_all-clause-missing : goal.returns-in_err-change_all-clause-missing
returns-in_err-change_all-clause-missing g c clean none =
    let begun = c.transaction-tx.ensures.begun in
    let mid = c.change_all.new.tx.conn.now in
    let same : c.drop-tx.new.self.0 ≡ c.conn-1.given.0 = search rules in
    let late : HasCleanDisk (state g.S.Store c.drop-tx.new.self.0) = search rules in
    let out = err_from_is_err_and c.from_residual.result c.from_residual.ensures.1 in
    let early : HasCleanDisk (state g.S.Store mid) = omega (arith, c.drop-tx.ensures.survives.clean) in
    let missed : Err c.in_err-change_all.field-0.0 ≡ Err NoBuffer = cc in
    subst (FindsNoneAmong g.S.Store (map statement_of c.args.changes.now)) begun (c.in_err-change_all.ensures.missing early (rw begun) missed)
