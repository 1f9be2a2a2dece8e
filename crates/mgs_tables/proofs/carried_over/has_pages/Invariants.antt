use Rattle.std.proofs.Common.{◌≡◌, ◌<◌, ◌≤◌, ℕ, length, slice_index}
use Rattle.sqlite_wal.specs.Recovery.{file_page}
use Rattle.mgs_tables.specs.LogCheck.{page_at}
use Rattle.mgs_tables.proofs.carried_over.has_pages.Given as goal

abbrev pub invariant-loop-n : goal.invariant-loop-n
invariant-loop-n l =
    (1 ≤ l.n) × (l.n-end ≡ length l.newest)
    × ((n : ℕ) → 1 ≤ n → n < l.n → page_at l.page_size l.log l.db n (slice_index l.newest n) ≡ file_page l.page_size l.db n)
