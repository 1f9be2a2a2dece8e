use Rattle.std.proofs.Common.{◌≡◌, ◌-◌, length, map, take}
use Rattle.std.specs.Prelude.{All}
use Rattle.mgs_world.specs.Worlds.{sizes}
use Rattle.mgs_engine.specs.Screens.{IsSessionScreen, IsDrawn, IsFirst, IsOnTime, shown_size}
use Rattle.mgs_engine.proofs.draw.first_screens.Given as goal

abbrev pub invariant-loop-size : goal.invariant-loop-size
invariant-loop-size g l = record {
  sizes : map shown_size l.screens.items ≡ take (length l.screens.items) (sizes l.initial.core.world);
  each : All IsSessionScreen l.screens.items;
  drawn : All (IsDrawn l.initial.core.world) l.screens.items;
  on_time : All IsOnTime l.screens.items;
  first : All IsFirst l.screens.items;
  core : l.core ≡ l.initial.core;
}

abbrev pub decreases-loop-size : goal.decreases-loop-size
decreases-loop-size g l = length (sizes l.initial.core.world) - length l.screens.items
