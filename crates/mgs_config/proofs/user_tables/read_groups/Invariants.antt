use Rattle.std.proofs.Common.{◌≡◌, [], map}
use Rattle.toml.specs.View.{view}
use Rattle.mgs_config.specs.Faults.{first_fault, group_of, group_refused}
use Rattle.mgs_config.proofs.Firsts.{rows_before, rows_from}
use Rattle.mgs_config.proofs.user_tables.read_groups.Given as goal

-- the groups so far, and the fault of the tables that are left
abbrev pub invariant-loop-before : goal.invariant-loop-before
invariant-loop-before l = record {
  users : l.directory.users ≡ l.initial.directory.users;
  groups : l.directory.groups ≡ map group_of (rows_before l.rows l.before);
  left : first_fault (group_refused l.initial.directory.users) (rows_before l.rows l.before) (rows_from l.rows l.before) ≡ first_fault (group_refused l.initial.directory.users) [] (map view l.rows);
}
