use Rattle.std.proofs.Common.{◌≡◌, ◌++◌, ◌+◌, take, vec_len, vec_capacity}
use Rattle.mgs_paint.proofs.put.put_bytes.Given as goal

abbrev pub invariant-loop-byte : goal.invariant-loop-byte
invariant-loop-byte l = (l.out.items ≡ l.fn.out.items ++ take l.byte-index l.bytes) × (vec_capacity l.out ≡ vec_capacity l.fn.out) × (vec_len l.out ≡ vec_len l.fn.out + l.byte-index)
