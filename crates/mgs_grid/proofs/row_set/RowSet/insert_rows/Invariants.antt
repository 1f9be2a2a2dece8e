use Rattle.std.proofs.Common.{◌≡◌, ℕ, ◌<◌, ◌≤◌, true}
use Rattle.mgs_grid.specs.RowSets.{has_row, AreIn}
use Rattle.mgs_grid.proofs.row_set.RowSet.insert_rows.Given as goal

abbrev pub invariant-loop-row : goal.invariant-loop-row
invariant-loop-row l = record {
  put : (i : ℕ) → l.first ≤ i → i < l.row → has_row i l.self ≡ true;
  kept : AreIn l.fn.self l.self;
  above : (i : ℕ) → i < l.first → has_row i l.self ≡ has_row i l.fn.self;
  below : (i : ℕ) → l.row ≤ i → has_row i l.self ≡ has_row i l.fn.self;
}
