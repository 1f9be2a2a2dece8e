use Rattle.std.proofs.Common.{◌≡◌}
use Rattle.mgs_model.specs.Walks.{over}
use Rattle.mgs_model.specs.Whites.{is_between}
use Rattle.mgs_fill.proofs.fills.over_between.Given as goal

abbrev pub invariant-loop-i : goal.invariant-loop-i
invariant-loop-i l = over is_between l.chars l.i ≡ over is_between l.chars l.at
