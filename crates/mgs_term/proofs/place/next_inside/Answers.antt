use Rattle.std.proofs.Common.{subst, sym, arith, rules, ◌<◌, ◌≤◌}
use Rattle.mgs_term.specs.Automaton.{IsNext, lead}
use Rattle.mgs_term.specs.declared.place.Place.TheVariants.{Inside}
use Rattle.mgs_term.proofs.Wide.{bytes_more}
use Rattle.mgs_term.proofs.place.next_inside.Goals as goal

pub returns-then-contains-clause-fits : goal.returns-then-contains-clause-fits
returns-then-contains-clause-fits c = subst (λ w. IsNext c.args.rows c.args.cols w c.reached.result) (sym c.requires.place.0) (c.reached.ensures.fits c.args.rows c.args.cols)

pub returns-then-contains-clause-spelled : goal.returns-then-contains-clause-spelled
returns-then-contains-clause-spelled c =
    let high : c.args.byte < 192 = search rules in
    let low : 128 ≤ c.args.byte = search rules in
    c.reached.ensures.spelled (Inside c.args.size c.args.read c.args.value) c.args.byte
    (bytes_more (lead c.args.size) c.args.read c.args.value c.from.result c.args.byte c.requires.place.1 (omega arith) (omega arith))
