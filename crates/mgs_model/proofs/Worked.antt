-- Widths of some characters, and rows of wide ones, computed.
use Rattle.std.proofs.Common.{◌≡◌, ℕ, zero, suc, List, [], ◌∷◌, ◌++◌, replicate, refl}
unfoldable pub use Rattle.unicode_width.proofs.Computing.{unicode_width}
use Rattle.mgs_model.specs.Cells.{glyph, cells, own_columns}
use Rattle.std.specs.Str.{is_utf8, chars}
use Rattle.std.specs.Char.{encode_utf8}
use Rattle.std.specs.Str.Lossy.{utf8_valid_len, utf8_error_len}
use Rattle.mgs_model.specs.Sequences.{sequence_read}
use Rattle.std.specs.Prelude.{None}
use Rattle.mgs_model.specs.Keys.{Half, Bound, Not_bound, key_read}
use Rattle.mgs_model.specs.declared.session.Insertion.TheVariants.{SelfInsert}
use Rattle.mgs_model.specs.declared.session.Setting.TheVariants.{KeyboardQuit}
use Rattle.mgs_model.specs.declared.session.Command.TheVariants.{Insert, Set}
use Rattle.mgs_model.specs.declared.sequence.Sequence.TheVariants.{Whole, Begun, Broken}
use Rattle.mgs_model.specs.Rows.{fitted, shown_row, shift_for}

narrow : own_columns 0xE9 ≡ 1
unfolding own_columns unicode_width
narrow = refl

wide : own_columns 0x6F22 ≡ 2
unfolding own_columns unicode_width
wide = refl

combining : own_columns 0x301 ≡ 0
unfolding own_columns unicode_width
combining = refl

-- so many times the same wide character, in its cells
abbrev wides : ℕ → List ℕ
wides zero = []
wides (suc n) = 0x6F22 ∷ 0 ∷ wides n

-- a line of eleven is cut in the midst of the tenth
cut : fitted 32 20 (cells (replicate 11 0x6F22)) ≡ wides 9 ++ 32 ∷ 36 ∷ []
unfolding fitted glyph own_columns unicode_width
cut = refl

-- a line of ten, shown from the column that it is shifted to at its end
shifted : shown_row 20 (shift_for 20 20) (cells (replicate 10 0x6F22)) ≡ 36 ∷ (wides 5 ++ replicate 9 32)
unfolding shown_row fitted glyph own_columns unicode_width
shifted = refl

whole : fitted 32 20 (cells (replicate 10 0x6F22)) ≡ wides 10
unfolding fitted glyph own_columns unicode_width
whole = refl

-- C3 A9 is a character, C3 41 and CC alone are not, and E6 BC waits
two_bytes : sequence_read (0xC3 ∷ 0xA9 ∷ []) ≡ Whole 0xE9
unfolding sequence_read is_utf8 chars encode_utf8 utf8_valid_len utf8_error_len
two_bytes = refl

broken : sequence_read (0xC3 ∷ 0x41 ∷ []) ≡ Broken
unfolding sequence_read is_utf8 chars encode_utf8 utf8_valid_len utf8_error_len
broken = refl

begun : sequence_read (0xE6 ∷ 0xBC ∷ []) ≡ Begun
unfolding sequence_read is_utf8 chars encode_utf8 utf8_valid_len utf8_error_len
begun = refl

overlong : sequence_read (0xC0 ∷ []) ≡ Broken
unfolding sequence_read is_utf8 chars encode_utf8 utf8_valid_len utf8_error_len
overlong = refl

surrogate : sequence_read (0xED ∷ 0xA0 ∷ []) ≡ Broken
unfolding sequence_read is_utf8 chars encode_utf8 utf8_valid_len utf8_error_len
surrogate = refl

-- the bytes of a character, one by one, and what comes of a byte that cannot go on
first_waits : key_read None [] 0xC3 ≡ Half None (0xC3 ∷ [])
unfolding key_read sequence_read is_utf8 chars encode_utf8 utf8_valid_len utf8_error_len
first_waits = refl

second_inserts : key_read None (0xC3 ∷ []) 0xA9 ≡ Bound (Insert (SelfInsert 0xE9)) None
unfolding key_read sequence_read is_utf8 chars encode_utf8 utf8_valid_len utf8_error_len
second_inserts = refl

letter_breaks : key_read None (0xC3 ∷ []) 0x41 ≡ Not_bound
unfolding key_read sequence_read is_utf8 chars encode_utf8 utf8_valid_len utf8_error_len
letter_breaks = refl

quoted_waits : key_read None (17 ∷ []) 0xC3 ≡ Half None (17 ∷ 0xC3 ∷ [])
unfolding key_read sequence_read is_utf8 chars encode_utf8 utf8_valid_len utf8_error_len
quoted_waits = refl

quit_ends : key_read None (0xE6 ∷ 0xBC ∷ []) 7 ≡ Bound (Set KeyboardQuit) None
unfolding key_read
quit_ends = refl

after_escape : key_read None (27 ∷ []) 0xC3 ≡ Not_bound
unfolding key_read
after_escape = refl
