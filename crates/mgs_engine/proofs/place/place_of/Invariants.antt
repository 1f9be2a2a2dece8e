use Rattle.std.proofs.Common.{◌≡◌, ◌+◌, drop}
use Rattle.std.specs.List.{position_or_len}
use Rattle.mgs_engine.specs.Screens.{screen_id}
use Rattle.mgs_engine.proofs.place.place_of.Given as goal

-- the screens so far are others'
abbrev pub invariant-loop-screen : goal.invariant-loop-screen
invariant-loop-screen l = record {
  at : l.at ≡ l.screen-index;
  rest : position_or_len (screen_id l.id) l.screens ≡ l.screen-index + position_or_len (screen_id l.id) (drop l.screen-index l.screens);
}
