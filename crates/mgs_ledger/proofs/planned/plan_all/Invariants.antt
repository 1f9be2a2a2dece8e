use Rattle.std.proofs.Common.{◌≡◌, ◌++◌, drop, map}
use Rattle.mgs_journal.specs.Changes.{rows_changed, texts_changed}
use Rattle.mgs_ledger.specs.Keeping.{events_of, planned_statement, statements_of, word_values}
use Rattle.mgs_ledger.proofs.planned.plan_all.Given as goal

-- what is planned, and what the changes that are left make of the rows that are there, is what all make of the first rows
abbrev pub invariant-loop-change : goal.invariant-loop-change
invariant-loop-change l = record {
  planned : map planned_statement l.planned.items ++ statements_of (drop l.change-index l.changes) l.rows.items
      ≡ map planned_statement l.fn.planned.items ++ statements_of l.changes l.fn.rows.items;
  events : map word_values l.events.items ++ events_of l.at l.user (drop l.change-index l.changes) l.rows.items
      ≡ map word_values l.fn.events.items ++ events_of l.at l.user l.changes l.fn.rows.items;
  rows : rows_changed (drop l.change-index l.changes) l.rows.items ≡ rows_changed l.changes l.fn.rows.items;
  texts : texts_changed (drop l.change-index l.changes) l.texts.items ≡ texts_changed l.changes l.fn.texts.items;
}
