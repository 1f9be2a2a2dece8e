use Rattle.std.proofs.Common.{◌≡◌, ◌⊎◌, ◌↔◌, ℕ, ◌+◌, ◌-◌, ◌<◌, ◌≤◌, length, IsTrue}
use Rattle.sqlite_wal.specs.Format.{commit_size}
use Rattle.sqlite_wal.specs.Recovery.{frame_at, frame, Passes}
use Rattle.mgs_tables.proofs.log_check.is_alone.Given as goal

abbrev pub invariant-loop-at : goal.invariant-loop-at
invariant-loop-at l =
    (l.at ≡ frame_at l.page_size l.j) × (l.at ≤ length l.log) × (l.k ≤ l.j) × (l.j ≤ l.at)
    × (l.len ≡ 24 + l.page_size)
    × (IsTrue l.stands ↔ ((l.j ≡ l.k) ⊎ Passes l.page_size l.log l.j))
    × ((i : ℕ) → l.k ≤ i → i < l.j → (i ≡ l.k) ⊎ Passes l.page_size l.log i → Passes l.page_size l.log (i + 1) → commit_size (frame l.page_size l.log i) ≡ 0)

abbrev pub decreases-loop-at : goal.decreases-loop-at
decreases-loop-at l = length l.log - l.at
