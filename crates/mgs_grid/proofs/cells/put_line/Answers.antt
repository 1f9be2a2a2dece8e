use Rattle.std.proofs.Common.{ℕ, List, length, ◌≤◌, arith, length-take}
use Rattle.mgs_grid.proofs.Drawn.{drawn_more, columns_more}
use Rattle.mgs_grid.proofs.cells.put_line.Goals as goal

pub loop-at-preserved : goal.loop-at-preserved
loop-at-preserved g c =
    let xs : List ℕ = g.T.Text.text c.args.text.now in
    let piece : List ℕ = c.piece-piece.result.now in
    let count : ℕ = c.min-count.result in
    let inside : count ≤ length piece = omega (arith, c.min-count.ensures) in
    record {
      from = omega arith;
      within = omega (arith, c.min-count.ensures);
      row = drawn_more xs piece c.args.row.now c.loop-at.row c.put_text-column.new.row c.args.shift c.args.start c.loop-at.at c.loop-at.column count c.loop-at.invariant.from inside c.piece-piece.ensures.piece c.loop-at.invariant.row c.loop-at.invariant.column c.put_text-column.ensures.row;
      column = columns_more xs piece c.args.start c.loop-at.at c.loop-at.column c.put_text-column.result count c.loop-at.invariant.from inside c.piece-piece.ensures.piece c.loop-at.invariant.column c.put_text-column.ensures.next;
      few = omega (arith, c.put_text-column.ensures.few, length-take count piece);
    }
