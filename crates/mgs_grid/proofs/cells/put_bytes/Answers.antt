use Rattle.std.proofs.Common.{◌≡◌, ℕ, ◌+◌, List, take, get_or, arith, sym, ap, ◌∙◌}
use Rattle.std.proofs.lemmas.List.{take_more, take_all, length-take-le}
use Rattle.mgs_grid.specs.Cells.{put, over}
use Rattle.mgs_grid.proofs.CellLemmas.{over_push}
use Rattle.mgs_grid.proofs.Plain.{plain_printable}
use Rattle.mgs_grid.proofs.cells.put_bytes.Goals as goal

pub loop-i-preserved : goal.loop-i-preserved
loop-i-preserved c =
    let i : ℕ = c.loop-i.i in
    let bytes : List ℕ = c.args.bytes.now in
    let row : List ℕ = c.args.row.now in
    let column : ℕ = c.args.column in
    let x : ℕ = get_or bytes i 0 in
    let more : over row 0 column (take (i + 1) bytes) ≡ put (over row 0 column (take i bytes)) 0 (column + i) x =
    ap (over row 0 column) (take_more bytes i 0 (omega arith)) ∙ over_push row 0 column (take i bytes) x ∙ ap (λ k. put (over row 0 column (take i bytes)) 0 (column + k) x) (length-take-le i bytes (omega arith)) in
    c.put.ensures ∙ ap (λ r. put r 0 (column + i) x) c.loop-i.invariant ∙ sym more

pub returns-clause-wrote : goal.returns-clause-wrote
returns-clause-wrote c =
    let bytes : List ℕ = c.args.bytes.now in
    record {
      row_is = c.loop-i.invariant ∙ ap (over c.args.row.now 0 c.args.column) (take_all c.loop-i.i bytes (omega arith));
      next_is = omega arith;
      printable = plain_printable bytes c.requires.plain;
    }
