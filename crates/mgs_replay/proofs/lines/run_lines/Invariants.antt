use Rattle.std.proofs.Common.{◌+◌, ◌≤◌, []}
use Rattle.mgs_script.proofs.Feeds.{length_left}
use Rattle.mgs_replay.specs.Players.{playing}
use Rattle.mgs_replay.specs.Served.{IsReady, player_of}
use Rattle.mgs_script.specs.Scripts.{lines_of}
use Rattle.mgs_replay.proofs.Standing.{Stands, lines_left}
use Rattle.mgs_replay.proofs.lines.run_lines.Given as goal

-- what the lines left may print from here, after what was written all of them may print, and there are no more lines
-- than bytes left
abbrev pub invariant-loop-rest : goal.invariant-loop-rest
invariant-loop-rest g l = record {
  ready : IsReady l.server l.clients;
  stands : Stands l.fn.first (playing l.fn.server.world []) (lines_of l.fn.text) (g.W.Write.contents l.fn.writer) (g.W.Write.contents l.writer) l.number (player_of l.server l.clients) (lines_left l.rest);
  first : 1 ≤ l.number;
  counted : l.number + length_left l.rest ≤ 16777218;
}

abbrev pub decreases-loop-rest : goal.decreases-loop-rest
decreases-loop-rest g l = length_left l.rest
