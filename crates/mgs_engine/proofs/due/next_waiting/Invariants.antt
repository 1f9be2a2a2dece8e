use Rattle.std.proofs.Common.{◌≡◌, drop}
use Rattle.std.specs.Prelude.{find}
use Rattle.mgs_engine.specs.Due.{is_due}
use Rattle.mgs_engine.proofs.due.next_waiting.Given as goal

-- none so far is due
abbrev pub invariant-loop-screen : goal.invariant-loop-screen
invariant-loop-screen l = record {
  rest : find (is_due l.after) l.screens ≡ find (is_due l.after) (drop l.screen-index l.screens);
}
