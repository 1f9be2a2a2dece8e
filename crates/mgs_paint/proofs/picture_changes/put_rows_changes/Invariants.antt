use Rattle.std.proofs.Common.{◌≡◌, ◌++◌, ◌≤◌, ◌+◌, ◌*◌, drop, vec_len, vec_capacity}
use Rattle.mgs_paint.specs.Operations.{bytes_of}
use Rattle.mgs_paint.specs.Changes.{moved, rows_changes}
use Rattle.mgs_paint.proofs.picture_changes.put_rows_changes.Given as goal

abbrev pub invariant-loop-i : goal.invariant-loop-i
invariant-loop-i l = record {
  items : l.out.items ++ bytes_of (rows_changes l.cols l.cursor l.i (drop l.i l.old) (drop l.i l.new)) ≡ l.fn.out.items ++ bytes_of (rows_changes l.cols l.fn.at 0 l.old l.new);
  cursor : moved l.cols l.cursor (rows_changes l.cols l.cursor l.i (drop l.i l.old) (drop l.i l.new)) ≡ moved l.cols l.fn.at (rows_changes l.cols l.fn.at 0 l.old l.new);
  capacity : vec_capacity l.out ≡ vec_capacity l.fn.out;
  len : vec_len l.out ≤ vec_len l.fn.out + l.i * (16 + 4 * l.cols);
}
