use Rattle.std.proofs.Common.{rules, ◌≡◌, subst}
use Rattle.std.proofs.lemmas.Result.{on_ok_weaker}
use Rattle.mgs_journal.specs.Acts.{Tick}
use Rattle.mgs_journal.specs.Chain.{TakesAndGoesOn}
use Rattle.mgs_journal.proofs.chain.ChainJournal.tick.Goals as goal

pub returns-clause-done : goal.returns-clause-done
returns-clause-done g c =
    on_ok_weaker c.follow.result
    (λ followed.
    subst (λ s. TakesAndGoesOn g.J.Journal.does g.F.Successor.follows s Tick (record { journal = c.follow.new.journal; files = c.follow.new.self })) c.self.view_is
    (record { mid = c.tick.new.self; taken = c.in_ok-tick.ensures.done; goes = followed }))
    c.follow.ensures.follows
