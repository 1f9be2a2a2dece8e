use Rattle.std.proofs.Common.{refl, subst, sym}
use Rattle.mgs_server.specs.Peers.{Closes, peers_of}
use Rattle.mgs_server.proofs.Due.{closed_at}
use Rattle.mgs_server.proofs.Moving.{gone_moved, moved_then, updated}
use Rattle.mgs_server.proofs.sockets.write_one.Goals as goal

pub returns-then-is_done-clause-moved : goal.returns-then-is_done-clause-moved
returns-then-is_done-clause-moved g c = λ tickets.
    moved_then g.E.Sessions.does g.E.Sessions.live g.E.Sessions.pending tickets _ _ _ (c.is_done.ensures.moved tickets) (gone_moved g.E.Sessions.does g.E.Sessions.live g.E.Sessions.pending tickets c.args.key _ _ _ (c.is_done.ensures.over c.if-is_done.true) (updated _ _ _ _ c.try_remove.ensures.updates))

pub returns-then-is_done-clause-written : goal.returns-then-is_done-clause-written
returns-then-is_done-clause-written g c =
    closed_at g.E.Sessions.does g.E.Sessions.live g.E.Sessions.pending g.S.Stream.answers (peers_of c.args.peers.now c.args.key) c.args.key c.is_done.result _ _ _ c.is_done.ensures.written
    (subst (λ b. Closes g.E.Sessions.does g.E.Sessions.live g.E.Sessions.pending g.S.Stream.answers b c.args.key (peers_of c.is_done.new.peers) (peers_of c.try_remove.new.self)) (sym c.if-is_done.true) (updated _ _ _ _ c.try_remove.ensures.updates))

pub returns-else-is_done-clause-written : goal.returns-else-is_done-clause-written
returns-else-is_done-clause-written g c =
    closed_at g.E.Sessions.does g.E.Sessions.live g.E.Sessions.pending g.S.Stream.answers (peers_of c.args.peers.now c.args.key) c.args.key c.is_done.result _ _ _ c.is_done.ensures.written
    (subst (λ b. Closes g.E.Sessions.does g.E.Sessions.live g.E.Sessions.pending g.S.Stream.answers b c.args.key (peers_of c.is_done.new.peers) (peers_of c.is_done.new.peers)) (sym c.if-is_done.false) refl)
