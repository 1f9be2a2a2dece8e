use Rattle.std.proofs.Common.{◌≡◌, ◌++◌, drop}
use Rattle.std.specs.Prelude.{string_bytes}
use Rattle.std.specs.Str.{encode_utf8_all}
use Rattle.mgs_keep.proofs.kept_texts.push_piece.Given as goal

abbrev pub invariant-loop-i : goal.invariant-loop-i
invariant-loop-i l = string_bytes l.body ++ encode_utf8_all (drop l.i l.piece) ≡ string_bytes l.fn.body ++ encode_utf8_all l.piece
