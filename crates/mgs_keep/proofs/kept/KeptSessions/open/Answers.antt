use Rattle.std.proofs.Common.{subst}
use Rattle.mgs_wire.specs.Calls.{Open}
use Rattle.mgs_keep.specs.Ends.{listed}
use Rattle.mgs_keep.specs.Keeping.{Held, Keeps, held}
use Rattle.mgs_keep.proofs.Calls.{keeps_open}
use Rattle.mgs_keep.proofs.kept.KeptSessions.open.Goals as goal

pub returns : goal.returns
returns g c =
    let old = c.self.inside in
    let now = c.open-answer in
    subst (λ (s : Held g.row.J.Denot). Keeps g.J.Journal.rows g.J.Journal.texts g.J.Journal.does g.J.Journal.fails s (Open c.args.user.now c.args.rows c.args.cols now.result) (held now.new.self c.note_opened.new.users c.tell.new.journal c.tell.new.failed)) c.self.view_is
    (keeps_open g.J.Journal.rows g.J.Journal.texts g.J.Journal.does g.J.Journal.fails c.args.user.now c.args.rows c.args.cols now.result old.engine now.new.self old.users c.note_opened.new.users old.journal c.tell.new.journal old.failed c.tell.new.failed
    (listed c.opening_told-told.result) (now.ensures.admits, now.ensures.painted, now.ensures.first) (c.note_opened.ensures c.args.user.now c.args.rows c.args.cols) now.ensures.queue c.pending.ensures.formed (c.opening_told-told.ensures c.args.rows c.args.cols) c.self.invariant c.tell.ensures.kept c.tell.ensures.journal)
