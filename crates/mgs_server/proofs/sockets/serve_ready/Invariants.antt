use Rattle.mio.specs.Events.{items}
use Rattle.std.specs.Slice.Iter.{iter_rest}
use Rattle.mgs_server.specs.Peers.{HandlesAll, Moved, ServerState, keys_in, server_with}
use Rattle.mgs_server.proofs.sockets.serve_ready.Given as goal

-- whatever is handled of the rest, all is
abbrev pub invariant-loop-event : goal.invariant-loop-event
invariant-loop-event g l = record {
  moved : Moved g.E.Sessions.does g.E.Sessions.live g.E.Sessions.pending l.tickets (server_with l.initial.engine l.initial.peers) (server_with l.engine l.peers);
  served : (new : ServerState _) → HandlesAll g.E.Sessions.does g.E.Sessions.live g.E.Sessions.pending g.S.Stream.answers g.E.Sessions.is_ended l.tickets (keys_in (iter_rest l.event-iterator)) (server_with l.engine l.peers) new
      → HandlesAll g.E.Sessions.does g.E.Sessions.live g.E.Sessions.pending g.S.Stream.answers g.E.Sessions.is_ended l.tickets (keys_in (items l.events)) (server_with l.initial.engine l.initial.peers) new;
}
