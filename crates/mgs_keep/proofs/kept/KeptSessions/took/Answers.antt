use Rattle.std.proofs.Common.{subst}
use Rattle.mgs_wire.specs.Calls.{Took}
use Rattle.mgs_keep.specs.Keeping.{Held, Keeps, held}
use Rattle.mgs_keep.proofs.Calls.{keeps_took}
use Rattle.mgs_keep.proofs.kept.KeptSessions.took.Goals as goal

pub returns : goal.returns
returns g c =
    let old = c.self.inside in
    subst (λ (s : Held g.row.J.Denot). Keeps g.J.Journal.rows g.J.Journal.texts g.J.Journal.does g.J.Journal.fails s (Took c.args.id c.args.n) (held c.took.new.self old.users old.journal old.failed)) c.self.view_is
    (keeps_took g.J.Journal.rows g.J.Journal.texts g.J.Journal.does g.J.Journal.fails c.args.id c.args.n old.engine c.took.new.self old.users old.journal old.failed c.took.ensures c.self.invariant)
