use Rattle.std.proofs.Common.{◌≡◌, ◌++◌, drop}
use Rattle.mgs_rewind.proofs.list_change.push_pieces.Given as goal

-- what was added, and what is left, are all
abbrev pub invariant-loop-piece : goal.invariant-loop-piece
invariant-loop-piece l = l.pieces.items ++ drop l.piece-index l.more ≡ l.fn.pieces.items ++ l.more
