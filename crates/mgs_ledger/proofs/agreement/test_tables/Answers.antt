use Rattle.std.proofs.Common.{rules}
use Rattle.mgs_ledger.proofs.agreement.test_tables.Goals as goal

pub returns : goal.returns
returns g c = record {
  mid = c.read_values.new.conn;
  rows = c.in_ok-rows.rows.items;
  taken = c.in_ok-history.history.taken.items;
  account = c.in_ok-history.history.account;
  rights = c.in_ok-rows.ensures;
  events = c.in_ok-history.ensures;
  agrees = search rules;
}
