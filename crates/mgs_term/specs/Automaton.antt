-- The terminal byte by byte: which place in a sequence it is at, and where the next byte leads.
use Rattle.std.specs.Prelude.{◌≡◌, ◌⊎◌, ℕ, zero, suc, ◌+◌, ◌-◌, ◌*◌, ◌/◌, ◌%◌, ◌<◌, ◌≤◌, nat_lt, Bool, true, false, ◌&&◌, ◌||◌, List, [], ◌∷◌, ◌++◌, nat_le, ◌==◌, if◌then◌else◌}
use Rattle.std.specs.Char.{is_ascii_digit, len_utf8}
use Rattle.mgs_model.specs.Cells.{own_columns}
use Rattle.mgs_term.specs.Screen.{Screen, blank_screen}
use Rattle.mgs_term.specs.Sequences.{number, spelling, Accepts, has_room, after}
use Rattle.mgs_term.specs.Terminal.{Terminal, Continues}
use Rattle.mgs_term.specs.declared.operation.Operation.{Operation}
use Rattle.mgs_term.specs.declared.operation.Operation.TheVariants.{Goto, Clear, Erase, Reverse, Plain, Unwrap, Print}
use Rattle.mgs_term.specs.declared.place.Place.{Place}
use Rattle.mgs_term.specs.declared.place.Place.TheVariants.{Ground, Escape, Bracket, Number, Row, Column, Question, Seven, Inside, Refused}
use Rattle.mgs_term.specs.declared.place.Next.{Next}
use Rattle.mgs_term.specs.declared.place.Next.TheVariants.{Stuck, Wait, Perform}

-- CHARACTERS PAST ASCII

-- how many characters have the same first bytes, where so many are left
abbrev pub span : ℕ → ℕ
span left = if left == 0 then 1 else if left == 1 then 64 else if left == 2 then 4096 else 262144

-- the first byte of so many, where the character's bits in it are none
abbrev pub lead : ℕ → ℕ
lead size = if size == 2 then 192 else if size == 3 then 224 else 240

-- the first character of so many bytes
abbrev pub least : ℕ → ℕ
least size = if size == 2 then 128 else if size == 3 then 2048 else 65536

-- a character that is shown as itself has these bytes in UTF-8
abbrev pub is_of_size : ℕ → ℕ → Bool
is_of_size size c = (len_utf8 c == size) && nat_le 1 (own_columns c)

-- some of so many characters is one, from a character on
unfoldable pub some_shown : ℕ → ℕ → ℕ → Bool
some_shown size c zero = false
some_shown size c (suc n) = is_of_size size c || some_shown size (c + 1) n

-- so many of the bytes are read, and this is the value of the bits in them
abbrev pub reached : ℕ → ℕ → ℕ → Next
reached size read value =
    if size == read then (if is_of_size size value then Perform (Print value) else Stuck)
    else if some_shown size (value * span (size - read)) (span (size - read)) then Wait (Inside size read value)
    else Stuck

-- the first byte
abbrev pub first_read : ℕ → Next
first_read b =
    if nat_lt b 192 then Stuck
    else if nat_lt b 224 then reached 2 1 (b - 192)
    else if nat_lt b 240 then reached 3 1 (b - 224)
    else if nat_lt b 248 then reached 4 1 (b - 240)
    else Stuck

-- those that have been read
abbrev pub bytes_read : ℕ → ℕ → ℕ → List ℕ
bytes_read first zero value = []
bytes_read first (suc zero) value = (first + value) ∷ []
bytes_read first (suc (suc n)) value = bytes_read first (suc n) (value / 64) ++ (128 + value % 64) ∷ []

-- the value of a character's bits without those in so many of its last bytes
abbrev pub fewer : ℕ → ℕ → ℕ
fewer zero c = c
fewer (suc n) c = fewer n (c / 64)

-- THE AUTOMATON

pub record Automaton : Type 0 where
  pub screen : Screen
  pub place : Place

-- A row's number may go up to the rows. 7 may come even where there are fewer, for `ESC [ 7 m`.
abbrev pub next_step : ℕ → ℕ → Bool → Place → ℕ → Next
next_step rows cols wrapping Ground b =
    if b == 27 then Wait Escape
    else if wrapping then Stuck
    else if nat_le 32 b && nat_le b 126 then Perform (Print b)
    else first_read b
next_step rows cols wrapping (Inside size read value) b =
    if nat_le 128 b && nat_lt b 192 then reached size (read + 1) (value * 64 + (b - 128)) else Stuck
next_step rows cols wrapping Escape b = if b == 91 then Wait Bracket else Stuck
next_step rows cols wrapping Bracket b =
    if b == 75 then Perform Erase
    else if b == 109 then Perform Plain
    else if b == 63 then Wait Question
    else if nat_le 49 b && (nat_le b 57 && (nat_le b (48 + rows) || b == 55)) then Wait (Number (b - 48))
    else Stuck
next_step rows cols wrapping (Number n) b =
    if b == 74 && n == 2 then Perform Clear
    else if b == 109 && n == 7 then Perform Reverse
    else if b == 59 && nat_le n rows then Wait (Row n)
    else if is_ascii_digit b && nat_le (n * 10 + (b - 48)) rows then Wait (Number (n * 10 + (b - 48)))
    else Stuck
next_step rows cols wrapping (Row r) b =
    if nat_le 49 b && (nat_le b 57 && nat_le b (48 + cols)) then Wait (Column r (b - 48)) else Stuck
next_step rows cols wrapping (Column r c) b =
    if b == 72 then Perform (Goto (r - 1) (c - 1))
    else if is_ascii_digit b && nat_le (c * 10 + (b - 48)) cols then Wait (Column r (c * 10 + (b - 48)))
    else Stuck
next_step rows cols wrapping Question b = if b == 55 then Wait Seven else Stuck
next_step rows cols wrapping Seven b = if b == 108 then Perform Unwrap else Stuck
next_step rows cols wrapping Refused b = Stuck

-- what is known of the numbers read so far, counted from 1
abbrev pub IsPlace : ℕ → ℕ → Bool → Place → Type 0
IsPlace rows cols wrapping (Number n) = (1 ≤ n) × ((n ≤ rows) ⊎ (n ≡ 7))
IsPlace rows cols wrapping (Row r) = (1 ≤ r) × (r ≤ rows)
IsPlace rows cols wrapping (Column r c) = (1 ≤ r) × (r ≤ rows) × (1 ≤ c) × (c ≤ cols)
-- some character has the bytes that were read
IsPlace rows cols wrapping (Inside size read value) =
    (wrapping ≡ false) × (1 ≤ read) × (read < size) × (size ≤ 4) × ((value + 1) * span (size - read) ≤ 2097152)
    × (c : ℕ) × (is_of_size size c ≡ true) × (fewer (size - read) c ≡ value)
IsPlace rows cols wrapping Ground = Unit {0}
IsPlace rows cols wrapping Escape = Unit {0}
IsPlace rows cols wrapping Bracket = Unit {0}
IsPlace rows cols wrapping Question = Unit {0}
IsPlace rows cols wrapping Seven = Unit {0}
IsPlace rows cols wrapping Refused = Unit {0}

abbrev pub IsNext : ℕ → ℕ → Bool → Next → Type 0
IsNext rows cols wrapping Stuck = Unit {0}
IsNext rows cols wrapping (Wait p) = IsPlace rows cols wrapping p
IsNext rows cols wrapping (Perform o) = Accepts rows cols wrapping o

-- the automaton once a byte came to that
abbrev pub place_reached : Automaton → Next → Automaton
place_reached t Stuck = record t { place = Refused }
place_reached t (Wait p) = record t { place = p }
place_reached t (Perform o) =
    if has_room t.screen o then record { screen = after o t.screen; place = Ground } else record t { place = Refused }

-- the automaton after one more byte
abbrev pub stepped : Automaton → ℕ → Automaton
stepped t b = place_reached t (next_step t.screen.rows t.screen.cols t.screen.wrapping t.place b)

-- the automaton after all of the bytes
abbrev pub fed : Automaton → List ℕ → Automaton
fed t [] = t
fed t (b ∷ bs) = fed (stepped t b) bs

abbrev pub is_out_of_profile : Place → Bool
is_out_of_profile Refused = true
is_out_of_profile Ground = false
is_out_of_profile Escape = false
is_out_of_profile Bracket = false
is_out_of_profile (Number n) = false
is_out_of_profile (Row r) = false
is_out_of_profile (Column r c) = false
is_out_of_profile Question = false
is_out_of_profile Seven = false
is_out_of_profile (Inside size read value) = false

-- the bytes so far of the sequence that has begun
abbrev pub begun_at : Place → List ℕ
begun_at Ground = []
begun_at Escape = 27 ∷ []
begun_at Bracket = 27 ∷ 91 ∷ []
begun_at (Number n) = 27 ∷ 91 ∷ number n
begun_at (Row r) = 27 ∷ 91 ∷ (number r ++ 59 ∷ [])
begun_at (Column r c) = 27 ∷ 91 ∷ (number r ++ 59 ∷ number c)
begun_at Question = 27 ∷ 91 ∷ 63 ∷ []
begun_at Seven = 27 ∷ 91 ∷ 63 ∷ 55 ∷ []
begun_at (Inside size read value) = bytes_read (lead size) read value
begun_at Refused = []

-- a byte that goes on goes on with the same sequence
abbrev pub IsSpelled : Place → ℕ → Next → Type 0
IsSpelled p b Stuck = Unit {0}
IsSpelled p b (Wait q) = begun_at q ≡ begun_at p ++ b ∷ []
IsSpelled p b (Perform o) = spelling o ≡ begun_at p ++ b ∷ []

-- what is known of it from outside
abbrev pub terminal_of : Automaton → Terminal
terminal_of t = record { screen = t.screen; begun = begun_at t.place; refused = is_out_of_profile t.place }

-- the last byte of a sequence does what the sequence does, and nothing has begun then
abbrev pub PerformsLast : Automaton → ℕ → Automaton → Type 0
PerformsLast old byte new = (o : Operation) → Continues (terminal_of old) byte [] o → new ≡ record { screen = after o old.screen; place = Ground }

abbrev pub new_automaton : ℕ → ℕ → Automaton
new_automaton rows cols = record { screen = blank_screen rows cols; place = Ground }
