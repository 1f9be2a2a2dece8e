use Rattle.std.proofs.Common.{sym, ◌∙◌}
use Rattle.mgs_server.specs.Peers.{peers_of}
use Rattle.mgs_server.proofs.Due.{open_at}
use Rattle.mgs_server.proofs.Moving.{changed_at, found_at, served_moved}
use Rattle.mgs_server.proofs.sockets.is_done.Goals as goal

pub returns-in-Some-clause-moved : goal.returns-in-Some-clause-moved
returns-in-Some-clause-moved g c = λ tickets.
    served_moved g.E.Sessions.does g.E.Sessions.live g.E.Sessions.pending tickets c.args.key c.in-Some.peer.now.conn c.write.new.self.conn _ _ _ _ (found_at c.args.peers.now c.args.key c.in-Some.peer.now c.in-Some.ensures.value)
    (changed_at c.args.peers.now c.args.key c.in-Some.peer.now c.write.new.self c.in-Some.ensures.value) (c.write.ensures.steps tickets)

pub returns-in-Some-clause-over : goal.returns-in-Some-clause-over
returns-in-Some-clause-over g c = λ done. record {
  conn = c.write.new.self.conn;
  found = (changed_at c.args.peers.now c.args.key c.in-Some.peer.now c.write.new.self c.in-Some.ensures.value).changed;
  over = sym c.write.ensures.over ∙ done;
}

pub returns-in-Some-clause-written : goal.returns-in-Some-clause-written
returns-in-Some-clause-written g c =
    open_at g.E.Sessions.does g.E.Sessions.live g.E.Sessions.pending g.S.Stream.answers (peers_of c.args.peers.now c.args.key) c.in-Some.peer.now.conn c.write.new.self.conn c.args.key c.write.result _ _ (found_at c.args.peers.now c.args.key c.in-Some.peer.now c.in-Some.ensures.value)
    (record { before = c.in-Some.peer.now.stream; after = c.write.new.self.stream; written = c.write.ensures.written }) (changed_at c.args.peers.now c.args.key c.in-Some.peer.now c.write.new.self c.in-Some.ensures.value) c.write.ensures.over
