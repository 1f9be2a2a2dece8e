use Rattle.std.proofs.Common.{◌≡◌, [], map}
use Rattle.toml.specs.View.{view}
use Rattle.mgs_config.specs.Faults.{first_fault, user_of, names_of, user_refused}
use Rattle.mgs_config.proofs.Firsts.{rows_before, rows_from}
use Rattle.mgs_config.proofs.user_tables.read_users.Given as goal

-- the users so far, and the fault of the tables that are left
abbrev pub invariant-loop-before : goal.invariant-loop-before
invariant-loop-before l = record {
  tickets : l.tickets ≡ map user_of (rows_before l.rows l.before);
  users : l.directory.users ≡ names_of (map user_of (rows_before l.rows l.before));
  groups : l.directory.groups ≡ [];
  left : first_fault user_refused (rows_before l.rows l.before) (rows_from l.rows l.before) ≡ first_fault user_refused [] (map view l.rows);
}
