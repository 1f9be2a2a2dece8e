-- UTF-8 that is typed byte by byte.
use Rattle.std.specs.Prelude.{ℕ, nat_lt, List, [], ◌∷◌, length, drop, Option, Some, None, chars, if◌then◌else◌}
use Rattle.std.specs.Str.{is_utf8}
use Rattle.std.specs.Str.Lossy.{utf8_valid_len, utf8_error_len}
use Rattle.mgs_model.specs.declared.sequence.Sequence.{Sequence}
use Rattle.mgs_model.specs.declared.sequence.Sequence.TheVariants.{Whole, Begun, Broken}

abbrev pub whole_of : List ℕ → Sequence
whole_of [] = Broken
whole_of (c ∷ cs) = Whole c

-- where so many bytes end within a character there is no length of what is wrong with them; a character has at most four
abbrev pub begun_of : ℕ → Option ℕ → Sequence
begun_of len None = if nat_lt len 4 then Begun else Broken
begun_of len (Some n) = Broken

-- what typed bytes are, as UTF-8
unfoldable pub sequence_read : List ℕ → Sequence
sequence_read bytes = if is_utf8 bytes then whole_of (chars bytes) else begun_of (length bytes) (utf8_error_len (drop (utf8_valid_len bytes) bytes))
