use Rattle.std.proofs.Common.{◌≡◌, ◌≤◌}
use Rattle.mgs_model.specs.Walks.{back, is_white}
use Rattle.mgs_lines.proofs.white_space.white_start.Given as goal

abbrev pub invariant-loop-at : goal.invariant-loop-at
invariant-loop-at g l = record { within : l.at ≤ l.p; same : back is_white (g.T.Text.text l.text) l.at ≡ back is_white (g.T.Text.text l.text) l.p }

abbrev pub decreases-loop-at : goal.decreases-loop-at
decreases-loop-at g l = l.at
