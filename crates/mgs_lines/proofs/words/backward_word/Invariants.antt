use Rattle.std.proofs.Common.{◌≡◌, ◌≤◌, ◌-◌}
use Rattle.mgs_model.specs.Walks.{backward_words}
use Rattle.mgs_lines.proofs.words.backward_word.Given as goal

-- the words that are left, from here, begin where all do
abbrev pub invariant-loop-i : goal.invariant-loop-i
invariant-loop-i g l =
    record { within : l.at ≤ l.p; same : backward_words (g.T.Text.text l.text) l.at (l.times - l.i) ≡ backward_words (g.T.Text.text l.text) l.p l.times }
