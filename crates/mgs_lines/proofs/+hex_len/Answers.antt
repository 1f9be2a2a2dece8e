use Rattle.std.proofs.Common.{arith}
use Rattle.std.proofs.lemmas.Int.Digits.{length-digits_of_step, length-digits_of-le}
use Rattle.mgs_lines.proofs.+hex_len.Goals as goal

pub returns-else-n-eq0-clause-value : goal.returns-else-n-eq0-clause-value
returns-else-n-eq0-clause-value t c = omega (arith, length-digits_of_step 16 c.args.n (omega arith) (omega arith))

pub returns-else-n-eq0-clause-few : goal.returns-else-n-eq0-clause-few
returns-else-n-eq0-clause-few t c = omega (arith, length-digits_of_step 16 c.args.n (omega arith) (omega arith), length-digits_of-le 16 8 c.args.n (omega arith) (omega arith))
