use Rattle.mgs_server.proofs.Moving.{moved_then, taken_moved}
use Rattle.mgs_server.proofs.sockets.Sockets.serve.Goals as goal

pub returns-clause-moved : goal.returns-clause-moved
returns-clause-moved g c = moved_then g.E.Sessions.does g.E.Sessions.live g.E.Sessions.pending c.args.tickets.now _ _ _ (taken_moved g.E.Sessions.does g.E.Sessions.live g.E.Sessions.pending c.args.tickets.now _ _ _ c.accept_reported-self.ensures) c.serve_ready.ensures.moved

pub returns-clause-served : goal.returns-clause-served
returns-clause-served g c = record { peers = _; taken = c.accept_reported-self.ensures; handled = c.serve_ready.ensures.served }
