use Rattle.std.proofs.Common.{◌≡◌, ◌≤◌, ◌+◌, ◌-◌, length, drop}
use Rattle.mgs_ledger.specs.ListChanges.{common_start}
use Rattle.mgs_ledger.proofs.list_change.common_start.Given as goal

-- the entries before the index are alike
abbrev pub invariant-loop-i : goal.invariant-loop-i
invariant-loop-i l = record {
  in_old : l.i ≤ length l.old;
  in_new : l.i ≤ length l.new;
  alike : common_start (drop l.i l.old) (drop l.i l.new) + l.i ≡ common_start l.old l.new;
}

abbrev pub decreases-loop-i : goal.decreases-loop-i
decreases-loop-i l = length l.old - l.i
