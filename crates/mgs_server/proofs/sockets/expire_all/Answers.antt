use Rattle.std.proofs.Common.{refl, ◌∙◌}
use Rattle.mgs_server.proofs.Logins.{closed_then, none_closed}
use Rattle.mgs_server.proofs.Moving.{moved_then, none_moved}
use Rattle.mgs_server.proofs.sockets.expire_all.Goals as goal

pub loop-key-init : goal.loop-key-init
loop-key-init g c = record { moved = λ tickets. none_moved g.E.Sessions.does g.E.Sessions.live g.E.Sessions.pending tickets _ _ refl; engine = refl; closes = none_closed _ }

pub loop-key-preserved : goal.loop-key-preserved
loop-key-preserved g c = record {
  moved = λ tickets. moved_then g.E.Sessions.does g.E.Sessions.live g.E.Sessions.pending tickets _ _ _ (c.loop-key.invariant.moved tickets) (c.expire_one.ensures.moved tickets);
  engine = c.expire_one.ensures.engine ∙ c.loop-key.invariant.engine;
  closes = closed_then _ _ _ c.loop-key.invariant.closes c.expire_one.ensures.closes;
}
