use Rattle.std.proofs.Common.{◌≡◌}
use Rattle.mgs_model.specs.Walks.{over}
use Rattle.mgs_fill.specs.Rewriting.{is_in_word}
use Rattle.mgs_fill.proofs.fills.over_word.Given as goal

abbrev pub invariant-loop-i : goal.invariant-loop-i
invariant-loop-i l = over is_in_word l.chars l.i ≡ over is_in_word l.chars l.at
