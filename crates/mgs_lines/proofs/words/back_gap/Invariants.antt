use Rattle.std.proofs.Common.{◌≡◌, ◌≤◌}
use Rattle.mgs_model.specs.Walks.{back, is_gap}
use Rattle.mgs_lines.proofs.words.back_gap.Given as goal

abbrev pub invariant-loop-at : goal.invariant-loop-at
invariant-loop-at g l = record { within : l.at ≤ l.p; same : back is_gap (g.T.Text.text l.text) l.at ≡ back is_gap (g.T.Text.text l.text) l.p }

abbrev pub decreases-loop-at : goal.decreases-loop-at
decreases-loop-at g l = l.at
