use Rattle.std.proofs.Common.{◌≡◌, ◌++◌, length, map}
use Rattle.std.specs.List.{slice_split}
use Rattle.mgs_rewind.specs.ListChanges.{is_semicolon, without_space}
use Rattle.mgs_rewind.proofs.list_change.split.Given as goal

-- the entries that were read, and those of the text that is left, are all
abbrev pub invariant-loop-at : goal.invariant-loop-at
invariant-loop-at l = l.pieces.items ++ map without_space (slice_split is_semicolon l.rest) ≡ map without_space (slice_split is_semicolon l.text)

abbrev pub decreases-loop-at : goal.decreases-loop-at
decreases-loop-at l = length l.rest
