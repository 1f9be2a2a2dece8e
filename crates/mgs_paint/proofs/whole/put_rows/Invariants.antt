use Rattle.std.proofs.Common.{◌≡◌, ◌++◌, ◌≤◌, ◌+◌, ◌*◌, take, vec_len, vec_capacity}
use Rattle.mgs_paint.specs.Operations.{bytes_of, rows_operations}
use Rattle.mgs_paint.proofs.whole.put_rows.Given as goal

abbrev pub invariant-loop-i : goal.invariant-loop-i
invariant-loop-i l = record {
  items : l.out.items ≡ l.fn.out.items ++ bytes_of (rows_operations 0 (take l.i l.lines));
  capacity : vec_capacity l.out ≡ vec_capacity l.fn.out;
  len : vec_len l.out ≤ vec_len l.fn.out + l.i * (13 + 4 * l.cols);
}
