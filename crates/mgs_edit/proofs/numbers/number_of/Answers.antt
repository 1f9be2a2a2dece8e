use Rattle.std.proofs.Common.{ℕ, ◌∷◌, ◌+◌, drop, sym, ap, ◌∙◌}
use Rattle.std.proofs.lemmas.List.{drop_more}
use Rattle.std.specs.Prelude.{fold}
use Rattle.mgs_edit.proofs.Digits.{next_small, with_next}
use Rattle.mgs_edit.proofs.numbers.number_of.Goals as goal

pub with_digit-number-requires-clause-small : goal.with_digit-number-requires-clause-small
with_digit-number-requires-clause-small c =
    let ds = c.args.digits.now in
    let i = c.loop-i.i in
    let digit = c.index-digits-i in
    next_small ds (drop (i + 1) ds) c.loop-i.number digit.result c.requires.few c.requires.digits
    (ap (λ (d : ℕ). fold with_next c.loop-i.number (d ∷ drop (i + 1) ds)) digit.is
    ∙ sym (ap (fold with_next c.loop-i.number) (drop_more ds i digit.result c.loop-i-test.true))
    ∙ c.loop-i.invariant.value)
