use Rattle.std.proofs.Common.{◌≡◌}
use Rattle.mgs_server.specs.Peers.{ClosesLogins, MovedByAny, peers_of, server_with}
use Rattle.mgs_server.proofs.sockets.expire_all.Given as goal

abbrev pub invariant-loop-key : goal.invariant-loop-key
invariant-loop-key g l = record {
  moved : MovedByAny g.E.Sessions.does g.E.Sessions.live g.E.Sessions.pending (server_with l.initial.engine l.initial.peers) (server_with l.engine l.peers);
  engine : l.engine ≡ l.initial.engine;
  closes : ClosesLogins (peers_of l.initial.peers) (peers_of l.peers);
}
