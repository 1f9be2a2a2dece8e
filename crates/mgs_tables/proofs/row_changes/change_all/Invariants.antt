use Rattle.std.proofs.Common.{◌≡◌, map, drop, IsTrue}
use Rattle.sqlite.specs.State.{HasCleanDisk, Survives, KeepsCommit}
use Rattle.sqlite.specs.Held.{state}
use Rattle.mgs_tables.specs.Changes.{RunChanges, FindsNoneAmong, statement_of}
use Rattle.mgs_tables.proofs.row_changes.change_all.Given as goal

-- what is left, made from here, leads where all lead from the start, and is refused only if all are
abbrev pub invariant-loop-change : goal.invariant-loop-change
invariant-loop-change g l =
    let old = state g.S.Store l.fn.tx.conn.now in
    let now = state g.S.Store l.tx.conn.now in
    (l.tx.conn.ghost_name ≡ l.fn.tx.conn.ghost_name) × Survives old now (λ _. ⊥)
    × (HasCleanDisk now → IsTrue old.in_transaction → IsTrue now.in_transaction × KeepsCommit old now
    × ((last : _) → RunChanges g.S.Store (map statement_of (drop l.change-index l.changes)) l.tx.conn.now last → RunChanges g.S.Store (map statement_of l.changes) l.fn.tx.conn.now last)
    × (FindsNoneAmong g.S.Store (map statement_of (drop l.change-index l.changes)) l.tx.conn.now → FindsNoneAmong g.S.Store (map statement_of l.changes) l.fn.tx.conn.now))
