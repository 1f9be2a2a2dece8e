use Rattle.std.proofs.Common.{ap, ◌∙◌}
use Rattle.mgs_model.specs.Access.{is_among}
use Rattle.mgs_ledger.proofs.Names.{freed}
use Rattle.mgs_ledger.proofs.ledger.LedgerJournal.forget.Goals as goal

pub returns-clause-taken : goal.returns-clause-taken
returns-clause-taken g c = λ other. ap (is_among other) c.free.ensures ∙ freed c.args.name.now other c.args.self.now.taken.items
