-- The operations of a whole paint.
use Rattle.std.specs.Prelude.{ℕ, ◌+◌, List, [], ◌∷◌, ◌++◌, ◌==◌, if◌then◌else◌, flat_map, cond}
use Rattle.mgs_model.specs.Cells.{right_half}
use Rattle.mgs_model.specs.Rows.{Row}
use Rattle.mgs_model.specs.Picture.{Picture}
use Rattle.mgs_term.specs.declared.operation.Operation.{Operation}
use Rattle.mgs_term.specs.declared.operation.Operation.TheVariants.{Goto, Reverse, Plain, Unwrap, Print}
use Rattle.mgs_term.specs.Sequences.{spelling}

-- the bytes that spell operations
abbrev pub bytes_of : List Operation → List ℕ
bytes_of = flat_map spelling

-- the characters of cells; a right half comes with its character
abbrev pub prints : List ℕ → List Operation
prints [] = []
prints (c ∷ cs) = if c == right_half then prints cs else Print c ∷ prints cs

-- one row
abbrev pub row_operations : ℕ → Row → List Operation
row_operations i r = Goto i 0 ∷ cond r.reversed Reverse Plain ∷ prints r.text

-- rows, the first of which is the i-th
abbrev pub rows_operations : ℕ → List Row → List Operation
rows_operations i [] = []
rows_operations i (r ∷ rs) = row_operations i r ++ rows_operations (i + 1) rs

-- wrap off, each row, reverse off, and the cursor
abbrev pub whole_operations : Picture → List Operation
whole_operations p = Unwrap ∷ (rows_operations 0 p.lines ++ (Plain ∷ Goto p.row p.col ∷ []))
