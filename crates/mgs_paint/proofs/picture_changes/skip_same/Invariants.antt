use Rattle.std.proofs.Common.{◌≡◌, ◌-◌, ◌≤◌, length, take}
use Rattle.mgs_paint.proofs.picture_changes.skip_same.Given as goal

abbrev pub invariant-loop-i : goal.invariant-loop-i
invariant-loop-i l = (l.i ≤ length l.new) × (take l.i l.old ≡ take l.i l.new)

abbrev pub decreases-loop-i : goal.decreases-loop-i
decreases-loop-i l = length l.new - l.i
