use Rattle.std.proofs.Common.{◌+◌, ◌≤◌}
use Rattle.mgs_script.proofs.Feeds.{length_left}
use Rattle.mgs_script.specs.Scripts.{lines_of}
use Rattle.mgs_replay.specs.Turns.{Leads}
use Rattle.mgs_replay.proofs.Standing.{lines_left}
use Rattle.mgs_replay.proofs.lines.set_up.Given as goal

-- all lines come to what those left come to from here, and there are no more lines than bytes left
abbrev pub invariant-loop-rest : goal.invariant-loop-rest
invariant-loop-rest l = record {
  leads : Leads l.fn.setup (lines_of l.script) l.number l.setup (lines_left l.rest);
  first : 1 ≤ l.number;
  counted : l.number + length_left l.rest ≤ 16777218;
}

abbrev pub decreases-loop-rest : goal.decreases-loop-rest
decreases-loop-rest l = length_left l.rest
