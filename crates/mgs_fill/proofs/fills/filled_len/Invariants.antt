use Rattle.std.proofs.Common.{◌≡◌, ◌+◌, ◌-◌, ◌*◌, ◌≤◌, false}
use Rattle.std.specs.Prelude.{slice_range}
use Rattle.mgs_fill.proofs.Counts.{filled_count}
use Rattle.mgs_fill.proofs.fills.filled_len.Given as goal

-- what is counted, and what is left
abbrev pub invariant-loop-i : goal.invariant-loop-i
invariant-loop-i g l =
    let xs = g.T.Text.text l.text in
    record { value : l.len + filled_count l.in_word (slice_range xs l.i l.to) ≡ filled_count false (slice_range xs l.from l.to); few : l.len ≤ 2 * (l.i - l.from) }
