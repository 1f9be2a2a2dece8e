use Rattle.std.proofs.Common.{cond, refl}
use Rattle.mgs_term.specs.Sequences.{spelling}
use Rattle.mgs_term.specs.declared.operation.Operation.TheVariants.{Goto, Reverse, Plain}
use Rattle.mgs_paint.specs.Operations.{bytes_of, prints}
use Rattle.mgs_paint.proofs.Runs.{joined}
use Rattle.mgs_paint.proofs.put.put_row.Goals as goal

pub returns-clause-items : goal.returns-clause-items
returns-clause-items c =
    let r = c.args.line.now in
    joined _ (spelling (Goto c.args.row 0)) (spelling (cond r.reversed Reverse Plain)) (bytes_of (prints r.text)) (bytes_of (prints r.text)) _ _ _ c.put_goto.ensures.items (rw c.is_reversed.ensures at c.put_reverse.ensures.items) (rw c.text.ensures at c.put_text.ensures.items) refl
