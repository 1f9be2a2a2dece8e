-- The sequences that a terminal accepts, by the bytes of a VT100, and what each of them does.
use Rattle.std.specs.Prelude.{◌≡◌, ℕ, ◌+◌, ◌-◌, ◌*◌, ◌/◌, ◌%◌, ◌<◌, Bool, true, false, List, [], ◌∷◌, ◌++◌, take, drop, length, min, nat_lt, nat_le, if◌then◌else◌, replicate}
use Rattle.std.specs.Char.{encode_utf8}
use Rattle.mgs_model.specs.Cells.{IsShown, own_cells}
use Rattle.mgs_term.specs.declared.cell.Cell.{Cell}
use Rattle.mgs_term.specs.declared.operation.Operation.{Operation}
use Rattle.mgs_term.specs.declared.operation.Operation.TheVariants.{Goto, Clear, Erase, Reverse, Plain, Unwrap, Print}
use Rattle.mgs_term.specs.Screen.{Screen, cursor_cell, blank_cell, own_shown, parted, written}

-- a number below 1000 in digits, without leading zeros
abbrev pub number : ℕ → List ℕ
number n =
    if nat_lt n 10 then (48 + n) ∷ []
    else if nat_lt n 100 then (48 + n / 10) ∷ (48 + n % 10) ∷ []
    else (48 + n / 100) ∷ (48 + n / 10 % 10) ∷ (48 + n % 10) ∷ []

-- the bytes of each: `ESC [ r ; c H` (cursor position), `ESC [ 2 J` (erase the screen), `ESC [ K` (erase to the row's end),
-- `ESC [ 7 m` (reverse on), `ESC [ m` (reverse off), `ESC [ ? 7 l` (wrap off), and a character itself in UTF-8
abbrev pub spelling : Operation → List ℕ
spelling (Goto r c) = 27 ∷ 91 ∷ (number (r + 1) ++ 59 ∷ (number (c + 1) ++ 72 ∷ []))
spelling Clear = 27 ∷ 91 ∷ 50 ∷ 74 ∷ []
spelling Erase = 27 ∷ 91 ∷ 75 ∷ []
spelling Reverse = 27 ∷ 91 ∷ 55 ∷ 109 ∷ []
spelling Plain = 27 ∷ 91 ∷ 109 ∷ []
spelling Unwrap = 27 ∷ 91 ∷ 63 ∷ 55 ∷ 108 ∷ []
spelling (Print c) = encode_utf8 c

-- which of them a terminal of this size accepts, as its wrap flag stands; the cursor has no say in it
abbrev pub Accepts : ℕ → ℕ → Bool → Operation → Type 0
Accepts rows cols wrapping (Goto r c) = (r < rows) × (c < cols)
Accepts rows cols wrapping Clear = Unit {0}
Accepts rows cols wrapping Erase = Unit {0}
Accepts rows cols wrapping Reverse = Unit {0}
Accepts rows cols wrapping Plain = Unit {0}
Accepts rows cols wrapping Unwrap = Unit {0}
Accepts rows cols wrapping (Print c) = IsShown c × (wrapping ≡ false)

-- whether a character has room from the cursor on; a wide one has none in the last column
abbrev pub has_room : Screen → Operation → Bool
has_room s (Goto r c) = true
has_room s Clear = true
has_room s Erase = true
has_room s Reverse = true
has_room s Plain = true
has_room s Unwrap = true
has_room s (Print c) = nat_le (s.col + length (own_cells c)) s.cols

-- the cursor's row parted before a column
abbrev pub parted_at : Screen → ℕ → List Cell → List Cell
parted_at s col cells = parted (s.row * s.cols) s.cols col cells

-- What each of them does. What is printed or erased parts a wide character that it hits; a print up to the last column
-- leaves the cursor there.
abbrev pub after : Operation → Screen → Screen
after (Goto r c) s = record s { row = r; col = c }
after Clear s = record s { cells = replicate (s.rows * s.cols) blank_cell }
after Erase s =
    let cells = parted_at s s.col s.cells in
    record s { cells = take (cursor_cell s) cells ++ (replicate (s.cols - s.col) blank_cell ++ drop (s.row * s.cols + s.cols) cells) }
after Reverse s = record s { reversing = true }
after Plain s = record s { reversing = false }
after Unwrap s = record s { wrapping = false }
after (Print c) s =
    let end = s.col + length (own_cells c) in
    record s { cells = written (cursor_cell s) (own_shown s.reversing c) (parted_at s end (parted_at s s.col s.cells)); col = min end (s.cols - 1) }
