use Rattle.std.proofs.Common.{◌≡◌, ◌≤◌, ◌-◌, ◌++◌, length, drop}
use Rattle.mgs_model.specs.Whites.{text_words, filled_from, refilled}
use Rattle.mgs_fill.proofs.fills.refill.Given as goal

-- the words that are left, behind what is filled
abbrev pub invariant-loop-at : goal.invariant-loop-at
invariant-loop-at l =
    record { within : l.at ≤ length l.chars; value : l.filled.items ++ filled_from l.fill l.column (text_words (drop l.at l.chars)) ≡ refilled l.fill l.chars }

abbrev pub decreases-loop-at : goal.decreases-loop-at
decreases-loop-at l = length l.chars - l.at
