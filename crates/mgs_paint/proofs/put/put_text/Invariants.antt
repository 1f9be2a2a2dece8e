use Rattle.std.proofs.Common.{◌≡◌, ◌++◌, ◌+◌, ◌*◌, ◌≤◌, drop, vec_len, vec_capacity}
use Rattle.mgs_paint.specs.Operations.{bytes_of, prints}
use Rattle.mgs_paint.proofs.put.put_text.Given as goal

abbrev pub invariant-loop-c : goal.invariant-loop-c
invariant-loop-c l = record {
  items : l.out.items ++ bytes_of (prints (drop l.c-index l.text)) ≡ l.fn.out.items ++ bytes_of (prints l.text);
  capacity : vec_capacity l.out ≡ vec_capacity l.fn.out;
  len : vec_len l.out ≤ vec_len l.fn.out + 4 * l.c-index;
}
