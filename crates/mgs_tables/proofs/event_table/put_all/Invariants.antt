use Rattle.std.proofs.Common.{◌≡◌, map, drop, IsTrue}
use Rattle.sqlite.specs.State.{HasCleanDisk, Survives, KeepsCommit}
use Rattle.sqlite.specs.Held.{state}
use Rattle.mgs_tables.specs.Rows.{event_values}
use Rattle.mgs_tables.specs.Events.{RunAll}
use Rattle.mgs_tables.proofs.event_table.put_all.Given as goal

-- what is left, added from here, leads where all lead from the start
abbrev pub invariant-loop-event : goal.invariant-loop-event
invariant-loop-event g l =
    let old = state g.S.Store l.fn.tx.conn.now in
    let now = state g.S.Store l.tx.conn.now in
    (l.tx.conn.ghost_name ≡ l.fn.tx.conn.ghost_name) × Survives old now (λ _. ⊥)
    × (HasCleanDisk now → IsTrue old.in_transaction → IsTrue now.in_transaction × KeepsCommit old now
    × ((last : _) → RunAll g.S.Store (map event_values (drop l.event-index l.events)) l.tx.conn.now last → RunAll g.S.Store (map event_values l.events) l.fn.tx.conn.now last))
