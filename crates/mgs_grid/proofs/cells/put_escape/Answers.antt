use Rattle.std.proofs.Common.{arith, sym, ◌∙◌}
use Rattle.std.proofs.lemmas.Int.Digits.{length-digits_of-le}
use Rattle.mgs_lines.proofs.Glyphs.{length-escape}
use Rattle.mgs_grid.proofs.CellLemmas.{over_escape}
use Rattle.mgs_grid.proofs.cells.put_escape.Goals as goal

pub put_hex-at-requires : goal.put_hex-at-requires
put_hex-at-requires c = omega (arith, length-digits_of-le 16 8 c.args.c (omega arith) (omega arith))

pub overflow_add-result : goal.overflow_add-result
overflow_add-result c = omega (arith, length-digits_of-le 16 8 c.args.c (omega arith) (omega arith))

pub returns-clause-row : goal.returns-clause-row
returns-clause-row c =
    c.put-4.ensures ∙ rw (c.put_hex-at.ensures.row, c.put_hex-at.ensures.next, c.put-3.ensures, c.put-2.ensures, c.put.ensures) (sym (over_escape c.args.row.now c.args.shift c.args.column c.args.c))

pub returns-clause-next : goal.returns-clause-next
returns-clause-next c = omega (arith, length-escape c.args.c)

pub returns-clause-few : goal.returns-clause-few
returns-clause-few c = omega (arith, length-digits_of-le 16 8 c.args.c (omega arith) (omega arith))
