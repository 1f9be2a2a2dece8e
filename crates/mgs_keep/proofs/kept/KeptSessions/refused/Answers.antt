use Rattle.std.proofs.Common.{Option, Some, List, [], ◌∷◌, ℕ, ap, ◌∙◌, subst}
use Rattle.mgs_wire.specs.Calls.{Refuse}
use Rattle.mgs_journal.specs.declared.Told.{Told}
use Rattle.mgs_keep.specs.Ends.{listed}
use Rattle.mgs_keep.specs.Keeping.{Held, Keeps, held, refused, user_among}
use Rattle.mgs_keep.proofs.Calls.{keeps_refused}
use Rattle.mgs_keep.proofs.kept.KeptSessions.refused.Goals as goal

pub returns : goal.returns
returns g c =
    let old = c.self.inside in
    let told : List Told = listed (Some c.refused-told.result) in
    let is = ap (λ (t : Told). t ∷ []) (c.refused-told.ensures ∙ ap (λ (n : Option (List ℕ)). refused (user_among old.engine.world.directory.users n) c.args.cause) c.name_in_bytes.ensures) in
    subst (λ (s : Held g.row.J.Denot). Keeps g.J.Journal.rows g.J.Journal.texts g.J.Journal.does g.J.Journal.fails s (Refuse c.args.name.now c.args.cause) (held old.engine old.users c.tell.new.journal c.tell.new.failed)) c.self.view_is
    (keeps_refused g.J.Journal.rows g.J.Journal.texts g.J.Journal.does g.J.Journal.fails c.args.name.now c.args.cause old.engine old.users old.journal c.tell.new.journal old.failed c.tell.new.failed told is c.self.invariant c.tell.ensures.kept c.tell.ensures.journal)
