use Rattle.std.proofs.Common.{◌≡◌, ℕ, ap, subst}
use Rattle.mio.specs.declared.token.Token.{Token}
use Rattle.mio.specs.Event.{event_token}
use Rattle.slab.specs.Slab.{with_value}
use Rattle.mgs_server.specs.Peers.{ReadsAt, server_with}
use Rattle.mgs_server.proofs.Moving.{changed_at, found_at, served_moved}
use Rattle.mgs_server.proofs.Reading.{read_at}
use Rattle.mgs_server.proofs.sockets.read_one.Goals as goal

pub returns-in-Some-clause-moved : goal.returns-in-Some-clause-moved
returns-in-Some-clause-moved g c =
    served_moved g.E.Sessions.does g.E.Sessions.live g.E.Sessions.pending c.args.tickets.now c.token.result.0 c.in-Some.peer.now.conn c.read_peer-reported.new.peer.conn _ _ _ _ (found_at c.args.peers.now c.token.result.0 c.in-Some.peer.now c.in-Some.ensures.value)
    (changed_at c.args.peers.now c.token.result.0 c.in-Some.peer.now c.read_peer-reported.new.peer c.in-Some.ensures.value) c.read_peer-reported.ensures.steps

pub returns-in-Some-clause-reads : goal.returns-in-Some-clause-reads
returns-in-Some-clause-reads g c =
    let at : c.token.result.0 ≡ (event_token c.args.event.now).0 = ap (λ (t : Token). t.0) c.token.ensures in
    let after = server_with c.read_peer-reported.new.engine (with_value c.args.peers.now c.token.result.0 c.read_peer-reported.new.peer) in
    subst (λ (key : ℕ). ReadsAt g.E.Sessions.does g.E.Sessions.live c.args.tickets.now key (server_with c.args.engine.now c.args.peers.now) after) at
    (read_at g.E.Sessions.does g.E.Sessions.live c.args.tickets.now _ c.in-Some.peer.now.conn c.read_peer-reported.new.peer.conn c.token.result.0 _ _ (found_at c.args.peers.now c.token.result.0 c.in-Some.peer.now c.in-Some.ensures.value) c.read_peer-reported.ensures.reads
    (changed_at c.args.peers.now c.token.result.0 c.in-Some.peer.now c.read_peer-reported.new.peer c.in-Some.ensures.value))
