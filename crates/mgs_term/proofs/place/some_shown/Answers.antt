use Rattle.std.proofs.Common.{◌∙◌, arith}
use Rattle.mgs_term.proofs.Wide.{shown_from}
use Rattle.mgs_term.proofs.place.some_shown.Goals as goal

pub returns : goal.returns
returns c =
    c.some_found.ensures
    ∙ shown_from c.args.size c.args.from c.args.count c.min-start.result c.requires.some c.requires.few (omega (arith, c.max.ensures, c.min-start.ensures)) (omega (arith, c.min-start.ensures))
    (λ n low high. omega (arith, low, high, c.max.ensures, c.min-start.ensures, c.least.ensures))
