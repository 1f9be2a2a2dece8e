use Rattle.std.proofs.Common.{◌≤◌, arith}
use Rattle.mgs_paint.specs.Changes.{ink_end}
use Rattle.mgs_paint.proofs.Columns.{ink_past}
use Rattle.mgs_paint.proofs.picture_changes.erase_start.Goals as goal

pub returns-then-text-end-ne32-clause-written : goal.returns-then-text-end-ne32-clause-written
returns-then-text-end-ne32-clause-written c =
    let past : c.args.end ≤ ink_end c.args.text.now = ink_past c.args.text.now c.args.end c.index-text-end.result (omega (arith, c.requires.order)) c.requires.within c.index-text-end.is c.if-text-end-ne32.true in
    λ near. omega (arith, past)
