use Rattle.std.proofs.Common.{◌+◌, ◌++◌, List, refl}
use Rattle.mgs_laws.specs.Apart.{Rules}
use Rattle.mgs_buffers.specs.Judging.{rules_kept}
use Rattle.mgs_journal.specs.Rows.{rules_in_rows}
use Rattle.mgs_resume.specs.Refusing.{room_faults}
use Rattle.mgs_resume.proofs.Gathering.{walk_past, walk_step}
use Rattle.mgs_resume.proofs.faults.push_ith_fault.Goals as goal

pub returns-in_default : goal.returns-in_default
returns-in_default g c =
    walk_past (rules_kept c.args.config.now) c.args.i (c.args.i + 1) refl
    (λ (rest : List Rules). c.args.faults.now.items ++ room_faults (g.J.Journal.taken c.args.journal.now) (rules_in_rows (g.J.Journal.rows c.args.journal.now)) c.args.room rest)
    c.in_default.ensures

pub returns : goal.returns
returns g c =
    walk_step (rules_kept c.args.config.now) c.args.i (c.args.i + 1) refl
    (λ (rest : List Rules). c.args.faults.now.items ++ room_faults (g.J.Journal.taken c.args.journal.now) (rules_in_rows (g.J.Journal.rows c.args.journal.now)) c.args.room rest)
    (λ (rest : List Rules). c.push_room_fault.new.faults.items ++ room_faults (g.J.Journal.taken c.args.journal.now) (rules_in_rows (g.J.Journal.rows c.args.journal.now)) c.in_ok-left.left rest)
    c.in-Some.rights _ c.in-Some.ensures c.in_ok-left.ensures refl
