use Rattle.std.proofs.Common.{◌≡◌, ℕ, ◌-◌, List, ◌++◌, length, replicate, subst, arith}
use Rattle.std.specs.Prelude.{decimal}
use Rattle.mgs_grid.specs.Cells.{Wrote}
use Rattle.mgs_grid.proofs.CellLemmas.{wrote_more}
use Rattle.mgs_grid.proofs.lists.put_size.Goals as goal

pub returns-clause-wrote : goal.returns-clause-wrote
returns-clause-wrote c =
    let digits : List ℕ = decimal c.args.size in
    let count : c.saturating_sub.result ≡ 7 - length digits = omega (arith, c.saturating_sub.ensures, c.put_decimal-width.ensures.wrote.next_is) in
    subst (λ (k : ℕ). Wrote c.args.row.now c.args.column (replicate k 32 ++ digits) c.put_decimal.new.row c.put_decimal.result) count (wrote_more c.put_spaces-at.ensures.wrote c.put_decimal.ensures.wrote)
