use Rattle.std.proofs.Common.{◌≡◌, ◌++◌, take}
use Rattle.mgs_acl.proofs.entry_printer.push_name.Given as goal

-- the characters so far stand after the text
abbrev pub invariant-loop-byte : goal.invariant-loop-byte
invariant-loop-byte l = l.text.bytes ≡ l.fn.text.bytes ++ take l.byte-index l.byte-items
