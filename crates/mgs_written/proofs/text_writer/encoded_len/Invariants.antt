use Rattle.std.proofs.Common.{◌≡◌, ◌+◌, drop, length}
use Rattle.std.specs.Str.{encode_utf8_all}
use Rattle.mgs_written.proofs.text_writer.encoded_len.Given as goal

-- what was counted and what is left are all
abbrev pub invariant-loop-i : goal.invariant-loop-i
invariant-loop-i l = record {
  counted : l.len + length (encode_utf8_all (drop l.i l.text)) ≡ length (encode_utf8_all l.text);
}
