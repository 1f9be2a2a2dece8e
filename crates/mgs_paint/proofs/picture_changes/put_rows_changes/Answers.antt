use Rattle.std.proofs.Common.{◌≡◌, ◌+◌, ◌*◌, ◌≤◌, List, length, get_or, drop, ap, ◌∙◌, arith, mul-le-mul_right}
use Rattle.mgs_model.specs.Picture.{IsRow}
use Rattle.mgs_term.specs.declared.operation.Operation.{Operation}
use Rattle.mgs_paint.specs.Changes.{moved, row_changes, rows_changes}
use Rattle.mgs_paint.proofs.Pieces.{rows_next, bytes_next, moved_next}
use Rattle.mgs_paint.proofs.picture_changes.put_rows_changes.Goals as goal

pub loop-i-preserved : goal.loop-i-preserved
loop-i-preserved c =
    let i = c.loop-i.i in
    let olds = c.args.old.now in
    let news = c.args.new.now in
    let a = c.index-old-i.result in
    let b = c.index-new-i.result in
    let of_row : IsRow c.args.cols (get_or news i b) = c.requires.each_new i b (omega arith) in
    let wide : length b.text ≡ c.args.cols = rw c.index-new-i.is of_row.width in
    let os : List Operation = row_changes c.loop-i.cursor i a b in
    let cursor = c.put_row_changes-cursor.ensures.cursor ∙ ap (λ n. moved n c.loop-i.cursor os) wide in
    let rest : List Operation = rows_changes c.args.cols (moved c.args.cols c.loop-i.cursor os) (i + 1) (drop (i + 1) olds) (drop (i + 1) news) in
    let next = rows_next c.args.cols c.loop-i.cursor i olds news a b c.requires.count (omega arith) c.index-old-i.is c.index-new-i.is in
    record {
      items = rw cursor (bytes_next c.loop-i.out.items c.put_row_changes-cursor.new.out.items _ os rest _ next c.put_row_changes-cursor.ensures.items c.loop-i.invariant.items);
      cursor = rw cursor (moved_next c.args.cols c.loop-i.cursor _ os rest _ next c.loop-i.invariant.cursor);
      capacity = search (arith);
      len = omega (arith, wide, c.put_row_changes-cursor.ensures.len, c.loop-i.invariant.len);
    }

pub put_row_changes-cursor-requires-clause-room : goal.put_row_changes-cursor-requires-clause-room
put_row_changes-cursor-requires-clause-room c =
    let news = c.args.new.now in
    let i = c.loop-i.i in
    let b = c.index-new-i.result in
    let of_row : IsRow c.args.cols (get_or news i b) = c.requires.each_new i b (omega arith) in
    let wide : length b.text ≡ c.args.cols = rw c.index-new-i.is of_row.width in
    let more : i + 1 ≤ length news = omega arith in
    omega (arith, wide, mul-le-mul_right (16 + 4 * c.args.cols) more)
