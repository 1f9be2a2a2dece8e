use Rattle.std.proofs.Common.{Some, sym, ap, ◌∙◌}
use Rattle.mgs_server.specs.Peers.{is_login}
use Rattle.mgs_server.proofs.Moving.{changed_at, found_at, served_moved}
use Rattle.mgs_server.proofs.sockets.is_expired.Goals as goal

pub returns-in-Some-clause-moved : goal.returns-in-Some-clause-moved
returns-in-Some-clause-moved g c = λ tickets.
    served_moved g.E.Sessions.does g.E.Sessions.live g.E.Sessions.pending tickets c.args.key c.in-Some.peer.now.conn c.expire.new.self.conn _ _ _ _ (found_at c.args.peers.now c.args.key c.in-Some.peer.now c.in-Some.ensures.value)
    (changed_at c.args.peers.now c.args.key c.in-Some.peer.now c.expire.new.self c.in-Some.ensures.value) (c.expire.ensures.steps tickets)

pub returns-in-Some-clause-over : goal.returns-in-Some-clause-over
returns-in-Some-clause-over g c = λ done. record {
  conn = c.expire.new.self.conn;
  found = (changed_at c.args.peers.now c.args.key c.in-Some.peer.now c.expire.new.self c.in-Some.ensures.value).changed;
  over = c.expire.ensures.over done;
}

pub returns-in-Some-clause-others : goal.returns-in-Some-clause-others
returns-in-Some-clause-others g c = (changed_at c.args.peers.now c.args.key c.in-Some.peer.now c.expire.new.self c.in-Some.ensures.value).others

pub returns-in-Some-clause-late : goal.returns-in-Some-clause-late
returns-in-Some-clause-late g c = λ done. ap is_login (found_at c.args.peers.now c.args.key c.in-Some.peer.now c.in-Some.ensures.value) ∙ c.expire.ensures.late done

pub returns-in-Some-clause-kept : goal.returns-in-Some-clause-kept
returns-in-Some-clause-kept g c = λ stays.
    (changed_at c.args.peers.now c.args.key c.in-Some.peer.now c.expire.new.self c.in-Some.ensures.value).changed ∙ ap Some (c.expire.ensures.kept stays) ∙ sym (found_at c.args.peers.now c.args.key c.in-Some.peer.now c.in-Some.ensures.value)
