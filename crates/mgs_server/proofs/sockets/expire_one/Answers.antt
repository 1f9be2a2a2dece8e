use Rattle.mgs_server.proofs.Logins.{kept_closed, login_closed}
use Rattle.mgs_server.proofs.Moving.{gone_moved, moved_then, updated}
use Rattle.mgs_server.proofs.sockets.expire_one.Goals as goal

pub returns-then-is_expired-clause-moved : goal.returns-then-is_expired-clause-moved
returns-then-is_expired-clause-moved g c = λ tickets.
    moved_then g.E.Sessions.does g.E.Sessions.live g.E.Sessions.pending tickets _ _ _ (c.is_expired.ensures.moved tickets) (gone_moved g.E.Sessions.does g.E.Sessions.live g.E.Sessions.pending tickets c.args.key _ _ _ (c.is_expired.ensures.over c.if-is_expired.true) (updated _ _ _ _ c.try_remove.ensures.updates))

pub returns-then-is_expired-clause-closes : goal.returns-then-is_expired-clause-closes
returns-then-is_expired-clause-closes g c = login_closed c.args.key _ _ _ c.is_expired.ensures.others (c.is_expired.ensures.late c.if-is_expired.true) (updated _ _ _ _ c.try_remove.ensures.updates)

pub returns-else-is_expired-clause-closes : goal.returns-else-is_expired-clause-closes
returns-else-is_expired-clause-closes g c = kept_closed c.args.key _ _ c.is_expired.ensures.others (c.is_expired.ensures.kept c.if-is_expired.false)
