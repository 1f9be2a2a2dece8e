use Rattle.std.proofs.Common.{◌++◌, ◌∙◌, ap, rules}
use Rattle.mgs_paint.proofs.Runs.{ascii_bytes}
use Rattle.mgs_paint.proofs.put.put_char.Goals as goal

pub returns-then-c-lt128-clause-items : goal.returns-then-c-lt128-clause-items
returns-then-c-lt128-clause-items c = c.push_reserved.ensures.items ∙ ap (λ xs. c.args.out.now.items ++ xs) (ascii_bytes c.args.c (search rules))
