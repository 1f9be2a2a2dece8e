-- Words of keys, as the maps tell them from each other.
use Rattle.std.specs.Prelude.{ℕ, nat_le, nat_lt, ◌==◌, ◌-◌, Bool, true, false, ◌&&◌, ◌||◌, List, [], ◌∷◌, ◌++◌, length, is_some, Option, Some, None, if◌then◌else◌}
use Rattle.std.specs.List.{slice_get}
use Rattle.mgs_model.specs.Keys.{KeyRead, Half, Bound, Not_bound, is_graphic, is_digit, digit_added, four_times, value_of, quoted_read}
use Rattle.mgs_model.specs.declared.session.Argument.{Argument}
use Rattle.mgs_model.specs.declared.session.Insertion.TheVariants.{SelfInsert}
use Rattle.mgs_model.specs.declared.session.Setting.TheVariants.{KeyboardQuit}
use Rattle.mgs_model.specs.declared.session.Command.{Command}
use Rattle.mgs_model.specs.declared.session.Command.TheVariants.{Insert, Set}
use Rattle.mgs_maps.specs.declared.maps.Stroke.{Stroke}
use Rattle.mgs_maps.specs.declared.maps.Stroke.TheVariants.{Plain, Meta}
use Rattle.mgs_maps.specs.declared.maps.Prefix.{Prefix}
use Rattle.mgs_maps.specs.declared.maps.Prefix.TheVariants.{Empty, ControlX, MetaBracket, Quote}
use Rattle.mgs_maps.specs.Held.{prefix_bytes}
use Rattle.mgs_maps.specs.Table.{command_of}

abbrev pub last_byte : Stroke → ℕ
last_byte (Plain byte) = byte
last_byte (Meta byte) = byte

abbrev pub is_byte : ℕ → Option ℕ → Bool
is_byte byte (Some other) = byte == other
is_byte byte None = false

-- whether this is the last of these bytes
abbrev pub ends_in : ℕ → List ℕ → Bool
ends_in byte keys = is_byte byte (slice_get keys (length keys - 1))

abbrev pub stroke_bytes : Stroke → List ℕ
stroke_bytes (Plain byte) = byte ∷ []
stroke_bytes (Meta byte) = 27 ∷ byte ∷ []

abbrev pub word_of : Prefix → Stroke → List ℕ
word_of prefix stroke = prefix_bytes prefix ++ stroke_bytes stroke

-- the prefix that a key makes of another
abbrev pub prefix_after : Prefix → Stroke → Option Prefix
prefix_after Empty (Plain byte) = if byte == 24 then Some ControlX else None
prefix_after Empty (Meta byte) = if byte == 91 then Some MetaBracket else None
prefix_after _ _ = None

-- the character that a word of one key inserts
abbrev pub inserted : Prefix → Stroke → Option ℕ
inserted Empty (Plain byte) = if is_graphic byte || (byte == 9) then Some byte else None
inserted _ _ = None

-- what a word is that is no row
abbrev pub no_row : Option Argument → Option Prefix → Option ℕ → KeyRead
no_row argument (Some prefix) c = Half argument (prefix_bytes prefix)
no_row argument None (Some c) = Bound (Insert (SelfInsert c)) (value_of argument)
no_row argument None None = Not_bound

-- what a word is: the command of its row, or a prefix, or a character
abbrev pub chosen : Option Argument → Option Command → Option Prefix → Option ℕ → KeyRead
chosen argument (Some c) prefix character = Bound c (value_of argument)
chosen argument None prefix character = no_row argument prefix character

abbrev pub word_reads : Option Argument → Prefix → Stroke → KeyRead
word_reads argument prefix stroke = chosen argument (command_of (word_of prefix stroke)) (prefix_after prefix stroke) (inserted prefix stroke)

abbrev pub is_empty : Prefix → Bool
is_empty Empty = true
is_empty ControlX = false
is_empty MetaBracket = false
is_empty Quote = false

abbrev pub is_quote : Prefix → Bool
is_quote Quote = true
is_quote _ = false

-- a byte that is a key by itself: all of ASCII behind C-q, and a byte past it behind C-x and M-[
abbrev pub is_raw : Prefix → ℕ → Bool
is_raw Empty byte = false
is_raw ControlX byte = nat_lt 127 byte
is_raw MetaBracket byte = nat_lt 127 byte
is_raw Quote byte = nat_le byte 127

-- without C-q
abbrev pub unquoted : Prefix → Prefix
unquoted Empty = Empty
unquoted ControlX = ControlX
unquoted MetaBracket = MetaBracket
unquoted Quote = Empty

abbrev pub plain_reads : Option Argument → Prefix → ℕ → KeyRead
plain_reads argument prefix byte =
    if is_quote prefix then quoted_read argument byte
    else if byte == 7 then Bound (Set KeyboardQuit) (value_of argument)
    else if is_empty prefix && (byte == 21) then Half (Some (four_times argument)) []
    else if is_digit byte && (is_empty prefix && is_some argument) then Half (Some (digit_added (byte - 48) argument)) []
    else if is_empty prefix && (byte == 17) then Half argument (17 ∷ [])
    else word_reads argument prefix (Plain byte)

abbrev pub meta_reads : Option Argument → Prefix → ℕ → KeyRead
meta_reads argument prefix byte =
    if is_quote prefix then quoted_read argument byte
    else if byte == 7 then Bound (Set KeyboardQuit) (value_of argument)
    else if is_digit byte && is_empty prefix then Half (Some (digit_added (byte - 48) argument)) []
    else word_reads argument prefix (Meta byte)

abbrev pub wide_reads : Option Argument → Prefix → ℕ → KeyRead
wide_reads argument prefix c = if is_empty prefix || is_quote prefix then Bound (Insert (SelfInsert c)) (value_of argument) else Not_bound
