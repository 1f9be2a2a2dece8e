use Rattle.std.proofs.Common.{subst}
use Rattle.mgs_engine.specs.Does.{Does}
use Rattle.mgs_engine.specs.Serving.{Serving}
use Rattle.mgs_wire.specs.Calls.{Byte}
use Rattle.mgs_keep.specs.Keeping.{Held, Keeps, held}
use Rattle.mgs_keep.proofs.Calls.{keeps_byte}
use Rattle.mgs_keep.proofs.kept.KeptSessions.byte.Goals as goal

pub returns : goal.returns
returns g c =
    let old = c.self.inside in
    let now = c.byte_told-keyed in
    let last = c.keep_saved in
    subst (λ (s : Held g.row.J.Denot). Keeps g.J.Journal.rows g.J.Journal.texts g.J.Journal.does g.J.Journal.fails s (Byte c.args.id c.args.byte now.result.0) (held now.new.self old.users last.new.journal last.new.failed)) c.self.view_is
    (keeps_byte g.J.Journal.rows g.J.Journal.texts g.J.Journal.does g.J.Journal.fails c.args.id c.args.byte now.result.0 old.engine now.new.self old.users old.journal c.keep.new.journal c.tell_event.new.journal last.new.journal
    old.failed c.keep.new.failed c.tell_event.new.failed last.new.failed c.user-user.result
    (subst (λ (s : Serving). Does s (Byte c.args.id c.args.byte now.result.0) now.new.self) c.clear_deeds.ensures (now.ensures.handles, now.ensures.painted)) c.user-user.ensures
    c.keep.ensures.kept c.keep.ensures.journal c.tell_event.ensures.kept c.tell_event.ensures.journal last.ensures.kept last.ensures.journal)
