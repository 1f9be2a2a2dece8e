use Rattle.std.proofs.Common.{◌≡◌, ◌≤◌, ◌-◌, length}
use Rattle.mgs_model.specs.Walks.{forward_words}
use Rattle.mgs_lines.proofs.words.forward_word.Given as goal

-- the words that are left, from here, end where all do
abbrev pub invariant-loop-i : goal.invariant-loop-i
invariant-loop-i g l =
    record {
      from : l.p ≤ l.at;
      within : l.at ≤ length (g.T.Text.text l.text);
      same : forward_words (g.T.Text.text l.text) l.at (l.times - l.i) ≡ forward_words (g.T.Text.text l.text) l.p l.times;
    }
