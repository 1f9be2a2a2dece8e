use Rattle.std.proofs.Common.{◌≡◌}
use Rattle.mgs_model.specs.Walks.{over, is_white}
use Rattle.mgs_lines.proofs.white_space.white_end.Given as goal

abbrev pub invariant-loop-i : goal.invariant-loop-i
invariant-loop-i g l = over is_white (g.T.Text.text l.text) l.i ≡ over is_white (g.T.Text.text l.text) l.p
