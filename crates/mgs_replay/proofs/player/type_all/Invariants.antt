use Rattle.std.proofs.Common.{drop}
use Rattle.mgs_replay.specs.Players.{Player}
use Rattle.mgs_replay.specs.Turns.{Types}
use Rattle.mgs_replay.specs.Served.{IsReady, player_of}
use Rattle.mgs_replay.proofs.player.type_all.Given as goal

-- what the bytes left may do from here, all may do from the start
abbrev pub invariant-loop-key : goal.invariant-loop-key
invariant-loop-key g l = record {
  ready : IsReady l.server l.clients;
  types : (t : Player) → Types (player_of l.server l.clients) l.label (drop l.key-index l.keys) t → Types (player_of l.fn.server l.fn.clients) l.label l.keys t;
}
