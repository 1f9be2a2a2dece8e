use Rattle.std.proofs.Common.{◌≡◌, ◌+◌, drop}
use Rattle.mgs_rewind.specs.ListChanges.{replaced_from}
use Rattle.mgs_rewind.proofs.list_change.replaced_after_first.Given as goal

-- what is left of the entries and of the text leads where all of both lead
abbrev pub invariant-loop-entry : goal.invariant-loop-entry
invariant-loop-entry l = record {
  count : l.count ≡ l.entry-index + 1;
  left : replaced_from l.count (drop l.entry-index l.entries) l.rest ≡ replaced_from 1 l.entries l.text;
}
