use Rattle.std.proofs.Common.{◌≡◌, ◌++◌, drop}
use Rattle.mgs_buffers.specs.Judging.{rules_kept}
use Rattle.mgs_journal.specs.Rows.{rules_in_rows}
use Rattle.mgs_resume.specs.Refusing.{room_faults}
use Rattle.mgs_resume.proofs.faults.push_room_faults.Given as goal

-- the faults of those that are left, by the room that is left, lead to all
abbrev pub invariant-loop-i : goal.invariant-loop-i
invariant-loop-i g l =
    l.faults.items ++ room_faults (g.J.Journal.taken l.journal) (rules_in_rows (g.J.Journal.rows l.journal)) l.room (drop l.i (rules_kept l.config))
    ≡ l.initial.faults.items ++ room_faults (g.J.Journal.taken l.journal) (rules_in_rows (g.J.Journal.rows l.journal)) l.initial.room (rules_kept l.config)
