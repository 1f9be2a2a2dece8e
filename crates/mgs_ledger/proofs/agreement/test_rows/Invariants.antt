use Rattle.std.proofs.Common.{◌≡◌, ◌-◌, ◌≤◌, length, map, take}
use Rattle.mgs_journal.specs.Rows.{rules_in_rows}
use Rattle.mgs_ledger.specs.Agreement.{told_of}
use Rattle.mgs_ledger.proofs.agreement.test_rows.Given as goal

-- the first rows have the rights that were told
abbrev pub invariant-loop-i : goal.invariant-loop-i
invariant-loop-i l = record {
  in_rows : l.i ≤ length l.rows;
  in_told : l.i ≤ length l.told;
  same : take l.i l.told ≡ map told_of (rules_in_rows (take l.i l.rows));
}

abbrev pub decreases-loop-i : goal.decreases-loop-i
decreases-loop-i l = length l.rows - l.i
