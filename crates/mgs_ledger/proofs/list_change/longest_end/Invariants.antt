use Rattle.std.proofs.Common.{◌≡◌, ◌≤◌, length}
use Rattle.mgs_ledger.specs.ListChanges.{common_end, longest_end}
use Rattle.mgs_ledger.proofs.list_change.longest_end.Given as goal

-- no more entries than these are alike up to the last
abbrev pub invariant-loop-count : goal.invariant-loop-count
invariant-loop-count l = record {
  in_was : l.count ≤ length l.was;
  in_is : l.count ≤ length l.is;
  left : common_end l.count l.was l.is ≡ longest_end l.was l.is;
}

abbrev pub decreases-loop-count : goal.decreases-loop-count
decreases-loop-count l = l.count
