use Rattle.std.proofs.Common.{subst}
use Rattle.mgs_wire.specs.Calls.{Close}
use Rattle.mgs_keep.specs.Keeping.{Held, Keeps, held}
use Rattle.mgs_keep.proofs.Calls.{keeps_close}
use Rattle.mgs_keep.proofs.kept.KeptSessions.close.Goals as goal

pub returns : goal.returns
returns g c =
    let old = c.self.inside in
    subst (λ (s : Held g.row.J.Denot). Keeps g.J.Journal.rows g.J.Journal.texts g.J.Journal.does g.J.Journal.fails s (Close c.args.id) (held c.close.new.self old.users old.journal old.failed)) c.self.view_is
    (keeps_close g.J.Journal.rows g.J.Journal.texts g.J.Journal.does g.J.Journal.fails c.args.id old.engine c.close.new.self old.users old.journal old.failed (c.close.ensures.ended, c.close.ensures.painted, c.close.ensures.world) c.self.invariant)
