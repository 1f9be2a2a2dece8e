use Rattle.std.proofs.Common.{rules}
use Rattle.mgs_ledger.proofs.ledger.Ledger.resume.Goals as goal

pub returns-clause-resumed : goal.returns-clause-resumed
returns-clause-resumed g c = record {
  mid = c.read_values.new.conn;
  later = c.read_snapshots.new.conn;
  last = c.read_history.new.conn;
  account = c.in_ok-history.history.account;
  rights = c.in_ok-rows.ensures;
  texts = c.in_ok-texts.ensures.read;
  count = search rules;
  events = c.in_ok-history.ensures;
  agrees = search rules;
  newest = c.in_ok-log.ensures.newest;
}
