use Rattle.mgs_server.proofs.Moving.{read_stepped, unread}
use Rattle.mgs_server.proofs.peer.Peer.read.Goals as goal

pub returns-clause-steps : goal.returns-clause-steps
returns-clause-steps g c = read_stepped g.E.Sessions.does g.E.Sessions.live g.E.Sessions.pending c.args.tickets.now c.pump_in_by.result _ _ _ _ _ _ c.pump_in_by.ensures.read c.pump_in_by.ensures.finished

pub returns-clause-unread : goal.returns-clause-unread
returns-clause-unread g c = unread g.E.Sessions.does g.E.Sessions.live c.args.tickets.now c.pump_in_by.result _ _ _ _ _ _ c.pump_in_by.ensures.read c.pump_in_by.ensures.finished
