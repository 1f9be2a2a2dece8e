use Rattle.std.proofs.Common.{◌≡◌, get_or, length, arith}
use Rattle.mgs_model.specs.Picture.{IsRow}
use Rattle.mgs_paint.proofs.Rows.{rows_more, appended}
use Rattle.mgs_paint.proofs.whole.put_rows.Goals as goal

pub loop-i-preserved : goal.loop-i-preserved
loop-i-preserved c =
    let r = c.index-lines-i.result in
    let of_row : IsRow c.args.cols (get_or c.args.lines.now c.loop-i.i r) = c.requires.each c.loop-i.i r (omega arith) in
    let wide : length r.text ≡ c.args.cols = rw c.index-lines-i.is of_row.width in
    record {
      items = appended _ _ _ _ _ _ c.loop-i.invariant.items c.put_row.ensures.items (rows_more c.args.lines.now c.loop-i.i r (omega arith) c.index-lines-i.is);
      capacity = search (arith);
      len = omega arith;
    }
