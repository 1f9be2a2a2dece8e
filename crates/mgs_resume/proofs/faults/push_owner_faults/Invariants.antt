use Rattle.std.proofs.Common.{◌≡◌, ◌-◌, ◌≤◌, ◌++◌, drop, length}
use Rattle.mgs_journal.specs.Rows.{rules_in_rows}
use Rattle.mgs_resume.specs.Refusing.{owner_faults}
use Rattle.mgs_resume.proofs.faults.push_owner_faults.Given as goal

-- the faults of those that are left lead to all
abbrev pub invariant-loop-rights : goal.invariant-loop-rights
invariant-loop-rights g l = record {
  faults : l.faults.items ++ owner_faults l.directory (drop l.i (rules_in_rows (g.J.Journal.rows l.journal))) ≡ l.initial.faults.items ++ owner_faults l.directory (rules_in_rows (g.J.Journal.rows l.journal));
  within : l.i ≤ length (rules_in_rows (g.J.Journal.rows l.journal));
}

abbrev pub decreases-loop-rights : goal.decreases-loop-rights
decreases-loop-rights g l = length (rules_in_rows (g.J.Journal.rows l.journal)) - l.i
