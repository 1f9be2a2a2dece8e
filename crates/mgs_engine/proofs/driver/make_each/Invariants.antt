use Rattle.std.proofs.Common.{take}
use Rattle.mgs_engine.specs.Drives.{Runs, all_asked, on_tape}
use Rattle.mgs_engine.proofs.driver.make_each.Given as goal

-- the calls so far were made
abbrev pub invariant-loop-call : goal.invariant-loop-call
invariant-loop-call g l =
    Runs (on_tape l.fn.engine l.fn.answers l.fn.pieces) (take l.call-index (all_asked l.calls)) (on_tape l.engine l.answers l.pieces)
