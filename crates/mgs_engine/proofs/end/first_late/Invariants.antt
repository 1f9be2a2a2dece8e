use Rattle.std.proofs.Common.{◌≡◌, drop}
use Rattle.std.specs.Prelude.{find}
use Rattle.mgs_engine.specs.Screens.{is_late}
use Rattle.mgs_engine.proofs.end.first_late.Given as goal

-- none so far is late
abbrev pub invariant-loop-screen : goal.invariant-loop-screen
invariant-loop-screen l = record {
  rest : find is_late l.screens ≡ find is_late (drop l.screen-index l.screens);
}
