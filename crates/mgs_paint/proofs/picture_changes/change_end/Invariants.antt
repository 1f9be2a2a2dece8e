use Rattle.std.proofs.Common.{◌≡◌, ◌≤◌, drop, length}
use Rattle.mgs_paint.proofs.picture_changes.change_end.Given as goal

abbrev pub invariant-loop-end : goal.invariant-loop-end
invariant-loop-end l = (l.end ≤ length l.new) × (drop l.end l.old ≡ drop l.end l.new)

abbrev pub decreases-loop-end : goal.decreases-loop-end
decreases-loop-end l = l.end
