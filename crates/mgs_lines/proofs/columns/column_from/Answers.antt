use Rattle.std.proofs.Common.{◌≡◌, ◌+◌, ℕ, List, ◌++◌, length, take, ap, sym, arith, ◌∙◌}
use Rattle.std.specs.Prelude.{slice_range}
use Rattle.mgs_model.specs.Cells.{cells_from}
use Rattle.mgs_lines.proofs.Counted.{behind_begin, range_piece}
use Rattle.mgs_lines.proofs.columns.column_from.Goals as goal

pub loop-i-preserved : goal.loop-i-preserved
loop-i-preserved g c =
    let xs : List ℕ = g.T.Text.text c.args.text.now in
    let piece : List ℕ = c.piece-piece.result.now in
    let i : ℕ = c.loop-i.i in
    let at : ℕ = c.loop-i.at in
    let count : ℕ = c.min-count.result in
    let cut : slice_range xs i c.args.p ≡ take count piece ++ slice_range xs (i + count) c.args.p = range_piece xs piece i count c.args.p c.piece-piece.ensures.piece (omega arith) (omega arith) in
    record {
      order = omega arith;
      from = omega arith;
      value = behind_begin at c.column_in-at.result (take count piece) (slice_range xs (i + count) c.args.p) c.column_in-at.ensures.value
          ∙ ap (λ (l : List ℕ). at + length (cells_from at l)) (sym cut)
          ∙ c.loop-i.invariant.value;
      few = omega (arith, c.column_in-at.ensures.few, c.loop-i.invariant.few, c.loop-i.invariant.from);
    }
