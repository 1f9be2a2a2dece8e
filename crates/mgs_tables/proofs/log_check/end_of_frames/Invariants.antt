use Rattle.std.proofs.Common.{◌≡◌, ℕ, ◌+◌, ◌-◌, ◌<◌, ◌≤◌, length}
use Rattle.sqlite_wal.specs.Format.{commit_size}
use Rattle.sqlite_wal.specs.Recovery.{frame_at, frame, sum_before, Passes}
use Rattle.mgs_tables.proofs.log_check.end_of_frames.Given as goal

abbrev pub invariant-loop-end : goal.invariant-loop-end
invariant-loop-end l =
    (l.end.at ≡ frame_at l.page_size l.end.frames) × (l.end.at ≤ length l.log) × (l.end.frames ≤ l.end.at)
    × ((i : ℕ) → i < l.end.frames → Passes l.page_size l.log i)
    × (l.end.sum ≡ sum_before l.page_size l.log l.end.frames)
    × (l.end.frames ≡ 0 → l.end.size ≡ 1)
    × ((i : ℕ) → i + 1 ≡ l.end.frames → l.end.size ≡ commit_size (frame l.page_size l.log i))

abbrev pub decreases-loop-end : goal.decreases-loop-end
decreases-loop-end l = length l.log - l.end.at
