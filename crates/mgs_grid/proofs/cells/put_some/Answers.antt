use Rattle.std.proofs.Common.{ℕ, List, length, take, ap, sym, ◌∙◌, arith, length-take}
use Rattle.mgs_grid.specs.Cells.{over}
use Rattle.mgs_grid.proofs.Runs.{plain_cells}
use Rattle.mgs_grid.proofs.cells.put_some.Goals as goal

pub returns-clause-row : goal.returns-clause-row
returns-clause-row c =
    c.put_plain.ensures
    ∙ ap (over c.args.row.now c.args.shift c.args.column) (sym (plain_cells c.args.column (take c.plain_len-count.result c.args.chars.now) c.plain_len-count.ensures.plain))

pub returns-clause-next : goal.returns-clause-next
returns-clause-next c =
    let run : List ℕ = take c.plain_len-count.result c.args.chars.now in
    omega (arith, ap (λ (l : List ℕ). length l) (plain_cells c.args.column run c.plain_len-count.ensures.plain), length-take c.plain_len-count.result c.args.chars.now, c.plain_len-count.ensures.within)
