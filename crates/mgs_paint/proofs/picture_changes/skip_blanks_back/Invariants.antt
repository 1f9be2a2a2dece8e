use Rattle.std.proofs.Common.{◌≡◌, ◌≤◌, drop, length, replicate}
use Rattle.mgs_paint.proofs.picture_changes.skip_blanks_back.Given as goal

abbrev pub invariant-loop-end : goal.invariant-loop-end
invariant-loop-end l = (l.end ≤ length l.text) × (drop l.end l.text ≡ drop l.end (replicate (length l.text) 32))

abbrev pub decreases-loop-end : goal.decreases-loop-end
decreases-loop-end l = l.end
