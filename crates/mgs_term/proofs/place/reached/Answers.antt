use Rattle.std.proofs.Common.{◌≡◌, sym, ap, ◌∙◌, refl, arith, rules}
use Rattle.std.specs.Char.{IsScalar, encode_utf8}
use Rattle.mgs_term.specs.Automaton.{bytes_read, lead}
use Rattle.mgs_term.proofs.Wide.{OfSize, of_size, encode_as, place_fits}
use Rattle.mgs_term.proofs.place.reached.Goals as goal

pub returns-in-Some-clause-spelled : goal.returns-in-Some-clause-spelled
returns-in-Some-clause-spelled c = λ place byte e.
    let of : OfSize c.args.size c.args.value = of_size c.args.size c.args.value (sym c.is_of_size.ensures ∙ c.if-is_of_size.true) in
    let same : c.in-Some.c ≡ c.args.value = search rules in
    ap encode_utf8 same ∙ encode_as c.args.size c.args.value of ∙ ap (λ n. bytes_read (lead c.args.size) n c.args.value) c.if-size-read.true ∙ e

pub returns-in-None-clause-next : goal.returns-in-None-clause-next
returns-in-None-clause-next c =
    let of : OfSize c.args.size c.args.value = of_size c.args.size c.args.value (sym c.is_of_size.ensures ∙ c.if-is_of_size.true) in
    let scalar : IsScalar c.args.value = of.scalar in
    absurd (search (rules, scalar))

pub returns-then-some_shown-clause-fits : goal.returns-then-some_shown-clause-fits
returns-then-some_shown-clause-fits c = λ rows cols.
    let w = place_fits c.args.size c.args.read c.args.value c.span-count.result c.requires.some c.requires.order c.if-size-read.false c.requires.few c.span-count.ensures.value (sym c.some_shown.ensures ∙ c.if-some_shown.true) in
    (refl, c.requires.some, omega (arith, c.if-size-read.false), c.requires.few, c.requires.small, w.0, w.1, w.2)
