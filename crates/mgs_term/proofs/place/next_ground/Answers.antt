use Rattle.std.proofs.Common.{subst, sym}
use Rattle.mgs_term.specs.Automaton.{IsNext}
use Rattle.mgs_term.proofs.place.next_ground.Goals as goal

pub returns-else-contains-clause-fits : goal.returns-else-contains-clause-fits
returns-else-contains-clause-fits c = subst (λ w. IsNext c.args.rows c.args.cols w c.first_read.result) (sym c.if-wrapping.false) (c.first_read.ensures.fits c.args.rows c.args.cols)
