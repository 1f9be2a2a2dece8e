use Rattle.std.proofs.Common.{◌/◌, ◌<◌, arith, sym, ◌∙◌}
use Rattle.std.proofs.lemmas.Int.Digits.{length-digits_of_step}
use Rattle.mgs_grid.proofs.CellLemmas.{over_digit, part_smaller}
use Rattle.mgs_grid.proofs.cells.+put_hex.Goals as goal

pub put_hex-at-requires : goal.put_hex-at-requires
put_hex-at-requires t c =
    let less : c.args.n / 16 < c.args.n = part_smaller 16 c.args.n (omega arith) (omega arith) in
    (omega arith, omega (arith, length-digits_of_step 16 c.args.n (omega arith) (omega arith), c.requires))

pub overflow_add-result : goal.overflow_add-result
overflow_add-result t c = omega (arith, length-digits_of_step 16 c.args.n (omega arith) (omega arith), c.put_hex-at.ensures.next, c.requires)

pub returns-clause-row : goal.returns-clause-row
returns-clause-row t c =
    c.put.ensures ∙ rw (c.put_hex-at.ensures.row, c.put_hex-at.ensures.next, c.digit.ensures) (sym (over_digit c.args.row.now c.args.shift c.args.column 16 c.args.n (omega arith) (omega arith)))

pub returns-clause-next : goal.returns-clause-next
returns-clause-next t c = omega (arith, length-digits_of_step 16 c.args.n (omega arith) (omega arith), c.put_hex-at.ensures.next)
