use Rattle.std.proofs.Common.{◌≡◌, ◌+◌, ◌-◌, ◌<◌, ◌≤◌, length}
use Rattle.sqlite_wal.specs.Recovery.{frame_at}
use Rattle.mgs_tables.specs.LogCheck.{AreNewest}
use Rattle.mgs_tables.proofs.carried_over.newest_pages.Given as goal

abbrev pub invariant-loop-i : goal.invariant-loop-i
invariant-loop-i l =
    (l.at ≡ frame_at l.page_size l.i) × (l.i ≤ l.frames)
    × (l.i < l.frames → l.at + (24 + l.page_size) ≤ length l.log)
    × AreNewest l.page_size l.log l.count l.i l.newest.items

abbrev pub decreases-loop-i : goal.decreases-loop-i
decreases-loop-i l = l.frames - l.i
