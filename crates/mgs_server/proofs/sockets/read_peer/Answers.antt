use Rattle.std.proofs.Common.{false, true, refl, subst}
use Rattle.mgs_wire.specs.Connections.{Connection, Breaks}
use Rattle.mgs_wire.specs.declared.pump.PumpedIn.TheVariants.{Took}
use Rattle.mgs_server.specs.Peers.{Stepped}
use Rattle.mgs_server.proofs.Moving.{given_up_stepped, stepped_then}
use Rattle.mgs_server.proofs.Reading.{read_on}
use Rattle.mgs_server.proofs.sockets.read_peer.Goals as goal

pub returns-in-None-clause-steps : goal.returns-in-None-clause-steps
returns-in-None-clause-steps g c =
    let given_up = subst (λ (conn : Connection). Stepped g.E.Sessions.does g.E.Sessions.live g.E.Sessions.pending c.args.tickets.now conn c.read.new.engine c.give_up.new.self.conn c.give_up.new.engine) c.report_next.ensures.same (given_up_stepped g.E.Sessions.does g.E.Sessions.live g.E.Sessions.pending c.args.tickets.now _ _ _ _ c.give_up.ensures.breaks) in
    stepped_then g.E.Sessions.does g.E.Sessions.live g.E.Sessions.pending c.args.tickets.now _ _ _ _ _ _ c.read.ensures.steps given_up

pub returns-in-None-clause-reads : goal.returns-in-None-clause-reads
returns-in-None-clause-reads g c =
    let given_up = subst (λ (conn : Connection). Breaks g.E.Sessions.does conn c.read.new.engine c.give_up.new.self.conn c.give_up.new.engine) c.report_next.ensures.same c.give_up.ensures.breaks in
    read_on g.E.Sessions.does g.E.Sessions.live c.args.tickets.now (Took c.in-Took.taken) _ _ _ _ _ _ _ _ c.in-Took.ensures.read c.in-Took.ensures.finished (true, given_up)

pub returns-in-Some-clause-reads : goal.returns-in-Some-clause-reads
returns-in-Some-clause-reads g c = read_on g.E.Sessions.does g.E.Sessions.live c.args.tickets.now (Took c.in-Took.taken) _ _ _ _ _ _ _ _ c.in-Took.ensures.read c.in-Took.ensures.finished (false, (c.report_next.ensures.same, refl))
