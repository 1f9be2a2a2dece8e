use Rattle.mgs_term.proofs.term.Term.feed.Goals as goal

pub returns-clause-taken : goal.returns-clause-taken
returns-clause-taken c = rw (← c.self.view_is) c.feed.ensures.taken
