use Rattle.mgs_server.proofs.Moving.{closing_leaves, closing_stopped_as, write_stepped, written_stepped}
use Rattle.mgs_server.proofs.peer.Peer.write.Goals as goal

pub returns-clause-steps : goal.returns-clause-steps
returns-clause-steps g c = λ tickets.
    write_stepped g.E.Sessions.does g.E.Sessions.live g.E.Sessions.pending tickets _ _ _ _ _ c.is_finished.ensures.reading c.is_finished.ensures.stopped
    (written_stepped g.E.Sessions.does g.E.Sessions.live g.E.Sessions.pending tickets c.pump_out.result _ _ _ _ _ _ c.pump_out.ensures.written)

pub returns-clause-closing : goal.returns-clause-closing
returns-clause-closing g c = λ e.
    closing_leaves g.E.Sessions.does c.pump_out.result c.pump_out.ensures.written.count _ _ _ _ (closing_stopped_as _ _ (c.is_finished.ensures.stopped e)) c.pump_out.ensures.written.leaves
