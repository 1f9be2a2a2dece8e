use Rattle.std.proofs.Common.{◌≡◌, drop, map, take}
use Rattle.std.specs.Prelude.{All}
use Rattle.mgs_engine.specs.Screens.{IsSessionScreen, AreRedrawn, shown_size}
use Rattle.mgs_engine.proofs.draw.redraw_each.Given as goal

abbrev pub invariant-loop-at : goal.invariant-loop-at
invariant-loop-at g l = record {
  each : All IsSessionScreen l.screens;
  sizes : map shown_size l.screens ≡ map shown_size l.initial.screens;
  redrawn : AreRedrawn l.initial.core.world (take l.at l.initial.screens) (take l.at l.screens);
  core : l.core ≡ l.initial.core;
  rest : drop l.at l.screens ≡ drop l.at l.initial.screens;
}
