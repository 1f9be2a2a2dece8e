use Rattle.std.proofs.Common.{◌-◌, ◌^◌, List}
use Rattle.mgs_server.specs.Peers.{AreWritten, Due, MovedByAny, ServerState, WritesDue, server_with}
use Rattle.mgs_server.proofs.sockets.write_due.Given as goal

abbrev pub decreases-loop-next : goal.decreases-loop-next
decreases-loop-next g l = 2 ^ 64 - l.id

-- whatever is written from here, is from the start
abbrev pub invariant-loop-next : goal.invariant-loop-next
invariant-loop-next g l = record {
  moved : MovedByAny g.E.Sessions.does g.E.Sessions.live g.E.Sessions.pending (server_with l.initial.engine l.initial.peers) (server_with l.engine l.peers);
  due : (new : ServerState _) (ds : List Due) → AreWritten g.E.Sessions.does g.E.Sessions.live g.E.Sessions.pending g.S.Stream.answers g.E.Sessions.is_ended l.id ds (server_with l.engine l.peers) new → WritesDue g.E.Sessions.does g.E.Sessions.live g.E.Sessions.pending g.S.Stream.answers g.E.Sessions.is_ended (server_with l.initial.engine l.initial.peers) new;
}
