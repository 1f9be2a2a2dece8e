-- The operations that turn a picture into another one: only where rows differ.
use Rattle.std.specs.Prelude.{ℕ, suc, ◌+◌, ◌-◌, min, max, nat_lt, ◌==◌, ◌&&◌, List, [], ◌∷◌, ◌++◌, length, replicate, slice_range, slice_index_or, if◌then◌else◌}
use Rattle.std.specs.Bool.{beq}
use Rattle.mgs_model.specs.Cells.{right_half, own_cells}
use Rattle.mgs_paint.specs.Operations.{prints}
use Rattle.mgs_model.specs.Rows.{Row}
use Rattle.mgs_model.specs.Picture.{Picture}
use Rattle.mgs_term.specs.declared.operation.Operation.{Operation}
use Rattle.mgs_term.specs.declared.operation.Operation.TheVariants.{Goto, Clear, Erase, Reverse, Plain, Unwrap, Print}

-- COLUMNS

-- the first place at which two texts differ, or their length
abbrev pub change_start : List ℕ → List ℕ → ℕ
change_start [] ys = 0
change_start (x ∷ xs) [] = 0
change_start (x ∷ xs) (y ∷ ys) = if x == y then suc (change_start xs ys) else 0

-- the place after the last at which they differ, or 0
abbrev pub change_end : List ℕ → List ℕ → ℕ
change_end [] ys = 0
change_end (x ∷ xs) [] = 0
change_end (x ∷ xs) (y ∷ ys) = if change_end xs ys == 0 && x == y then 0 else suc (change_end xs ys)

-- the place after the last that is no blank, or 0
abbrev pub ink_end : List ℕ → ℕ
ink_end text = change_end (replicate (length text) 32) text

-- the end of a change, behind the right half that stands there
abbrev pub whole_end : List ℕ → ℕ → ℕ
whole_end text end = if nat_lt 0 end && (slice_index_or text end 32 == right_half) then end + 1 else end

-- the columns of a row that change, from the first to the one after the last: all of them where its reverse changes
abbrev pub start_column : Row → Row → ℕ
start_column old new = if beq old.reversed new.reversed then change_start old.text new.text else 0

abbrev pub end_column : Row → Row → ℕ
end_column old new = if beq old.reversed new.reversed then whole_end new.text (change_end old.text new.text) else length new.text

-- THE CURSOR

-- where an operation leaves the cursor, on so many columns
abbrev pub cursor_after : ℕ → ℕ × ℕ → Operation → ℕ × ℕ
cursor_after cols at (Goto r c) = (r, c)
cursor_after cols at Clear = at
cursor_after cols at Erase = at
cursor_after cols at Reverse = at
cursor_after cols at Plain = at
cursor_after cols at Unwrap = at
cursor_after cols at (Print c) = (at.0, min (at.1 + length (own_cells c)) (cols - 1))

-- and where several leave it
abbrev pub moved : ℕ → ℕ × ℕ → List Operation → ℕ × ℕ
moved cols at [] = at
moved cols at (o ∷ os) = moved cols (cursor_after cols at o) os

-- the cursor's way to a place
abbrev pub way : ℕ × ℕ → ℕ × ℕ → List Operation
way from to = if from.0 == to.0 && from.1 == to.1 then [] else Goto to.0 to.1 ∷ []

-- WHAT CHANGES

-- the characters of a plain row from a column to another; an erase stands for the blanks at its end where that is shorter
abbrev pub plain_piece : List ℕ → ℕ → ℕ → List Operation
plain_piece text start end =
    let ink = max (ink_end text) start in
    if nat_lt (ink + 3) end then prints (slice_range text start ink) ++ Erase ∷ [] else prints (slice_range text start end)

-- the characters of a row from a column to another, with reverse on around those of a reversed one
abbrev pub piece : Row → ℕ → ℕ → List Operation
piece r start end = if r.reversed then Reverse ∷ (prints (slice_range r.text start end) ++ Plain ∷ []) else plain_piece r.text start end

-- one row: nothing where it stays the same, else the cursor's way to its first column that differs, and what changes
abbrev pub row_changes : ℕ × ℕ → ℕ → Row → Row → List Operation
row_changes at i old new =
    if end_column old new == 0 then [] else way at (i, start_column old new) ++ piece new (start_column old new) (end_column old new)

-- rows, the first of which is the i-th
abbrev pub rows_changes : ℕ → ℕ × ℕ → ℕ → List Row → List Row → List Operation
rows_changes cols at i [] news = []
rows_changes cols at i (old ∷ olds) [] = []
rows_changes cols at i (old ∷ olds) (new ∷ news) =
    row_changes at i old new ++ rows_changes cols (moved cols at (row_changes at i old new)) (i + 1) olds news

-- each row, and the cursor's way
abbrev pub changes : Picture → Picture → List Operation
changes old new =
    let rows = rows_changes new.cols (old.row, old.col) 0 old.lines new.lines in
    rows ++ way (moved new.cols (old.row, old.col) rows) (new.row, new.col)
