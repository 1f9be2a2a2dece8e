use Rattle.std.proofs.Common.{◌≡◌, ◌+◌, ◌≤◌, ◌++◌, drop, length}
use Rattle.std.specs.Vec.{vec_capacity}
use Rattle.mgs_gap.specs.Feeds.{turned}
use Rattle.mgs_gap.proofs.feeds.turned_onto.Given as goal

abbrev pub invariant-loop-i : goal.invariant-loop-i
invariant-loop-i l = record {
  some : l.left ≤ l.i;
  most : l.i ≤ length l.numbers;
  items : l.to.items ≡ l.fn.to.items ++ turned l.len (drop l.i l.numbers);
  room : length l.to.items + l.i ≤ vec_capacity l.to + l.left;
  capacity : vec_capacity l.to ≡ vec_capacity l.fn.to;
}

abbrev pub decreases-loop-i : goal.decreases-loop-i
decreases-loop-i l = l.i
