use Rattle.std.proofs.Common.{ℕ, ◌<◌, length, sym, ap, ◌∙◌, arith}
use Rattle.mgs_model.specs.Rows.{Row}
use Rattle.mgs_grid.proofs.Taken.{left_read, same_read}
use Rattle.mgs_grid.proofs.window.take_rows.Goals as goal

pub take_row-requires-clause-width : goal.take_row-requires-clause-width
take_row-requires-clause-width c =
    let i : ℕ = c.loop-i.i in
    let a : Row = c.index-lines-i.result in
    let b : Row = c.index-from-i.result in
    let within : i < length c.args.from.now = omega arith in
    ap (λ (r : Row). length r.text) (left_read c.args.lines.now c.loop-i.lines i a c.loop-i.invariant.left)
    ∙ c.requires.each i a (omega arith)
    ∙ sym (ap (λ (r : Row). length r.text) c.index-from-i.is ∙ c.requires.each_from i b within)

pub take_row-requires-clause-same : goal.take_row-requires-clause-same
take_row-requires-clause-same c = λ none.
    same_read c.args.lines.now c.loop-i.lines c.args.from.now c.loop-i.i c.index-from-i.result _ c.loop-i.invariant.left (omega arith) c.index-from-i.is (c.requires.same.each c.loop-i.i (sym c.has.ensures ∙ none))
