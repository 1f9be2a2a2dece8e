use Rattle.std.proofs.Common.{◌≡◌}
use Rattle.mgs_model.specs.Walks.{over, is_word}
use Rattle.mgs_lines.proofs.words.over_word.Given as goal

abbrev pub invariant-loop-i : goal.invariant-loop-i
invariant-loop-i g l = over is_word (g.T.Text.text l.text) l.i ≡ over is_word (g.T.Text.text l.text) l.p
