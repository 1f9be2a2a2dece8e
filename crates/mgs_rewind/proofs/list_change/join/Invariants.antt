use Rattle.std.proofs.Common.{◌≡◌, ◌++◌, true, drop}
use Rattle.mgs_rewind.specs.ListChanges.{joined}
use Rattle.mgs_rewind.proofs.list_change.join.Given as goal

-- what is joined, and the entries that are left, are all
abbrev pub invariant-loop-piece : goal.invariant-loop-piece
invariant-loop-piece l = l.text.items ++ joined l.is_first (drop l.piece-index l.pieces) ≡ joined true l.pieces
