use Rattle.std.proofs.Common.{◌≡◌, drop}
use Rattle.mgs_journal.specs.Changes.{rows_changed, texts_changed}
use Rattle.mgs_keep_tests.proofs.book.make_all.Given as goal

-- what the changes that are left make of the rows and the texts is what all make of the first ones
abbrev pub invariant-loop-change : goal.invariant-loop-change
invariant-loop-change l = record {
  rows : rows_changed (drop l.change-index l.changes) l.rows.items ≡ rows_changed l.changes l.fn.rows.items;
  texts : texts_changed (drop l.change-index l.changes) l.texts.items ≡ texts_changed l.changes l.fn.texts.items;
}
