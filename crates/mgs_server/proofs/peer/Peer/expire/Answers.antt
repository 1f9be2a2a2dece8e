use Rattle.std.proofs.Common.{subst, sym, ◌∙◌}
use Rattle.mgs_wire.specs.Connections.{Connection}
use Rattle.mgs_server.specs.Peers.{Stepped}
use Rattle.mgs_server.proofs.Moving.{expired_stepped}
use Rattle.mgs_server.proofs.peer.Peer.expire.Goals as goal

pub returns-then-is_logging_in-clause-steps : goal.returns-then-is_logging_in-clause-steps
returns-then-is_logging_in-clause-steps g c = λ tickets.
    subst (λ (conn : Connection). Stepped g.E.Sessions.does g.E.Sessions.live g.E.Sessions.pending tickets conn c.args.engine.now c.give_up.new.self.conn c.give_up.new.engine) c.came-came.ensures
    (expired_stepped g.E.Sessions.does g.E.Sessions.live g.E.Sessions.pending tickets _ _ _ _ (sym c.is_logging_in.ensures ∙ c.if-is_logging_in.true) c.give_up.ensures.breaks)
