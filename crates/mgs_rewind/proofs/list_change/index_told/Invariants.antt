use Rattle.std.proofs.Common.{◌≡◌, ◌≤◌, ◌+◌, ◌-◌}
use Rattle.mgs_rewind.specs.ListChanges.{index_from}
use Rattle.mgs_rewind.proofs.list_change.index_told.Given as goal

-- the index is none of those that were tried
abbrev pub invariant-loop-i : goal.invariant-loop-i
invariant-loop-i l = record {
  within : l.i ≤ l.count + 1;
  left : index_from l.i (l.count + 1 - l.i) l.text ≡ index_from 0 (l.count + 1) l.text;
}

abbrev pub decreases-loop-i : goal.decreases-loop-i
decreases-loop-i l = l.count + 1 - l.i
