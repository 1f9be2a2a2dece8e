use Rattle.std.proofs.Common.{◌≡◌, ℕ, List, get_or, ◌∙◌, arith}
use Rattle.std.proofs.lemmas.List.{get_or_default}
use Rattle.mgs_grid.proofs.Runs.{plain_more}
use Rattle.mgs_grid.proofs.cells.plain_len.Goals as goal

pub loop-i-preserved : goal.loop-i-preserved
loop-i-preserved c =
    let chars : List ℕ = c.args.chars.now in
    let i : ℕ = c.loop-i.i in
    let x : ℕ = c.index-chars-i.result in
    let is : x ≡ get_or chars i 0 = c.index-chars-i.is ∙ get_or_default chars i x 0 (omega arith) in
    record { plain = plain_more chars i x (omega arith) is (omega arith) (omega arith) c.loop-i.invariant.plain }
