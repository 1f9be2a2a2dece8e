use Rattle.std.proofs.Common.{ℕ, ◌≤◌, ◌-◌, length}
use Rattle.mgs_gap.specs.Feeds.{Parts}
use Rattle.mgs_gap.proofs.feeds.below.Given as goal

abbrev pub invariant-loop-low : goal.invariant-loop-low
invariant-loop-low l = record {
  within : l.high ≤ length l.feeds;
  low : (n : ℕ) → Parts l.limit l.feeds n → l.low ≤ n;
  high : (n : ℕ) → Parts l.limit l.feeds n → n ≤ l.high;
}

abbrev pub decreases-loop-low : goal.decreases-loop-low
decreases-loop-low l = l.high - l.low
