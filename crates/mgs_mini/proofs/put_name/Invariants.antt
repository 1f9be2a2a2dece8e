use Rattle.std.proofs.Common.{◌≡◌, take}
use Rattle.mgs_mini.proofs.put_name.Given as goal

abbrev pub invariant-loop-byte : goal.invariant-loop-byte
invariant-loop-byte l = l.input.items ≡ take l.byte-index l.name
