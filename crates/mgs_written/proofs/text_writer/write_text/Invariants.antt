use Rattle.std.proofs.Common.{◌≤◌, drop, string_bytes, string_capacity}
use Rattle.std.specs.Str.{encode_utf8_all}
use Rattle.std.specs.Io.KnownBytes.{append_known}
use Rattle.mgs_written.proofs.Appending.{Ahead}
use Rattle.mgs_written.proofs.text_writer.write_text.Given as goal

-- what was written, what was gathered and what is left are all
abbrev pub invariant-loop-i : goal.invariant-loop-i
invariant-loop-i g l = record {
  room : 4 ≤ string_capacity l.room;
  kept : string_capacity l.fn.room ≤ string_capacity l.room;
  ahead : Ahead (g.W.Write.contents l.fn.writer) (append_known (g.W.Write.contents l.writer) (string_bytes l.room)) (encode_utf8_all (drop l.i l.text)) (encode_utf8_all l.text);
}
