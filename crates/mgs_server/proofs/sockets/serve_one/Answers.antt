use Rattle.std.proofs.Common.{◌≡◌, ℕ, ap, subst}
use Rattle.mio.specs.declared.token.Token.{Token}
use Rattle.mio.specs.Event.{event_token}
use Rattle.mgs_server.specs.Peers.{WritesAt, server_with}
use Rattle.mgs_server.proofs.Moving.{moved_then}
use Rattle.mgs_server.proofs.sockets.serve_one.Goals as goal

pub returns-clause-moved : goal.returns-clause-moved
returns-clause-moved g c =
    let tickets = c.args.tickets.now in
    let read = moved_then g.E.Sessions.does g.E.Sessions.live g.E.Sessions.pending tickets _ _ _ c.read_one.ensures.moved (c.write_one.ensures.moved tickets) in
    moved_then g.E.Sessions.does g.E.Sessions.live g.E.Sessions.pending tickets _ _ _ read (c.write_due.ensures.moved tickets)

pub returns-clause-served : goal.returns-clause-served
returns-clause-served g c =
    let at : c.token.result.0 ≡ (event_token c.args.event.now).0 = ap (λ (t : Token). t.0) c.token.ensures in
    let writes = subst (λ (key : ℕ). WritesAt g.E.Sessions.does g.E.Sessions.live g.E.Sessions.pending g.S.Stream.answers key (server_with c.read_one.new.engine c.read_one.new.peers) (server_with c.write_one.new.engine c.write_one.new.peers)) at c.write_one.ensures.written in
    record { read = _; reads = c.read_one.ensures.reads; written = _; writes = writes; due = c.write_due.ensures.due }
