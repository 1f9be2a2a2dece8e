use Rattle.std.proofs.Common.{[], ◌++◌, refl, sym, inl, inr, append-nil, ◌∙◌}
use Rattle.mgs_keeper.specs.Printing.{count_due}
use Rattle.mgs_keeper.proofs.line_printer.LinePrinter.add.Goals as goal

pub returns-then-not-has_place-clause-adds : goal.returns-then-not-has_place-clause-adds
returns-then-not-has_place-clause-adds g c = ([], inr (refl, c.one_more-self.ensures), sym (append-nil c.args.self.now.waiting.items))

pub returns-in-Ok-clause-adds : goal.returns-in-Ok-clause-adds
returns-in-Ok-clause-adds g c = (count_due c.args.self.now.missed ++ c.args.line.now, inl (refl, refl), c.in-Ok.ensures.ok)

pub returns-in-Err-clause-adds : goal.returns-in-Err-clause-adds
returns-in-Err-clause-adds g c = ([], inr (refl, c.one_more-self-in-Err.ensures), c.in-Err.ensures.err ∙ sym (append-nil c.args.self.now.waiting.items))
