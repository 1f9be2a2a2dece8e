use Rattle.std.proofs.Common.{ℕ, List, arith, refl, get_or}
use Rattle.mgs_grid.proofs.Drawn.{chars_more, ends_more}
use Rattle.mgs_grid.proofs.cells.put_chars.Goals as goal

pub loop-c-preserved : goal.loop-c-preserved
loop-c-preserved c =
    let chars : List ℕ = c.args.chars.now in
    let i : ℕ = c.loop-c.c-index in
    record {
      row = chars_more chars c.loop-c.row c.put_glyph-at.new.row _ c.args.shift i c.loop-c.at c.put_glyph-at.result (get_or chars i 0) (omega arith) refl c.put_glyph-at.ensures.row c.put_glyph-at.ensures.next c.loop-c.invariant.row;
      next = ends_more chars i c.loop-c.at c.put_glyph-at.result (get_or chars i 0) _ (omega arith) refl c.put_glyph-at.ensures.next c.loop-c.invariant.next;
      few = omega arith;
    }
