use Rattle.std.proofs.Common.{[], ap, ◌∙◌, subst}
use Rattle.mgs_keep.specs.Keeping.{HasTold, Held, held}
use Rattle.mgs_keep.proofs.Calls.{keeps_told}
use Rattle.mgs_keep.proofs.Running.{has_run}
use Rattle.mgs_keep.proofs.kept.KeptServed.tell_ended.Goals as goal

pub returns-clause-told : goal.returns-clause-told
returns-clause-told g c =
    let old = c.self.inside in
    let now = c.tell_all in
    let last = c.tick in
    subst (λ (s : Held g.row.J.Denot). HasTold g.J.Journal.rows g.J.Journal.texts g.J.Journal.does g.J.Journal.fails s (held now.new.engine now.new.users last.new.journal last.new.failed)) c.self.view_is
    (keeps_told g.J.Journal.rows g.J.Journal.texts g.J.Journal.does g.J.Journal.fails old.engine now.new.engine old.users now.new.users old.journal now.new.journal c.keep_next.new.journal last.new.journal
    old.failed now.new.failed c.keep_next.new.failed last.new.failed now.ensures.engine now.ensures.users c.self.invariant now.ensures.kept now.ensures.journal c.keep_next.ensures.kept c.keep_next.ensures.journal last.ensures.kept last.ensures.journal)

pub returns-clause-runs : goal.returns-clause-runs
returns-clause-runs g c first calls made = record {
  over =
      has_run g.J.Journal.rows g.J.Journal.texts g.J.Journal.does g.J.Journal.fails c.args.self.now c.tell_all.new.engine
      (c.tell_all.ensures.engine ∙ ap (λ (s : Held g.row.J.Denot). record s.serving { ended = [] }) c.self.view_is) first calls made;
}
