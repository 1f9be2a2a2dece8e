-- What an accepted sequence does leaves a screen a screen.
use Rattle.std.proofs.Common.{◌≡◌, ℕ, ◌+◌, ◌-◌, ◌*◌, ◌<◌, ◌≤◌, List, ◌++◌, length, ◌∙◌, take, drop, replicate, set, refl, inl, inr, [], ◌∷◌, arith}
use Rattle.std.specs.Prelude.{nat_lt, ◌&&◌, slice_index_or}
use Rattle.std.proofs.lemmas.Bool.{cases_Bool}
use Rattle.mgs_model.specs.Cells.{own_cells}
use Rattle.std.proofs.lemmas.List.{length-append, length-set, length-take-le, length-drop, length-replicate}
use Rattle.std.proofs.Math.Nat.{mul-le-mul_right}
use Rattle.mgs_term.specs.declared.cell.Cell.{Cell}
use Rattle.mgs_term.specs.Screen.{Screen, IsScreen, blank_cell, cursor_cell, is_half, blanked, parted, written, own_shown}
use Rattle.mgs_term.specs.Sequences.{after, Accepts}
use Rattle.mgs_term.specs.declared.operation.Operation.{Operation}
use Rattle.mgs_term.specs.declared.operation.Operation.TheVariants.{Goto, Clear, Erase, Reverse, Plain, Unwrap, Print}

row_end : (row rows cols : ℕ) → row < rows → row * cols + cols ≤ rows * cols
row_end row rows cols lt = omega (arith, mul-le-mul_right {m = row + 1} {n = rows} cols (omega arith))

pub length-parted : (start cols col : ℕ) (cells : List Cell) → length (parted start cols col cells) ≡ length cells
unfolding parted
length-parted start cols col cells = elim (cases_Bool (nat_lt 0 col && (nat_lt col cols && is_half (slice_index_or cells (start + col) blank_cell)))) [
  | inl e ↦ rw e (length-set (blanked (start + col) cells) (start + col - 1) _ ∙ length-set cells (start + col) _)
  | inr e ↦ rw e refl
]

pub length-written : (i : ℕ) (xs cells : List Cell) → length (written i xs cells) ≡ length cells
length-written i [] cells = refl
length-written i (x ∷ xs) cells = length-written (i + 1) xs (set cells i x) ∙ length-set cells i x

pub after_keeps : (s : Screen) (o : Operation) → IsScreen s → Accepts s.rows s.cols s.wrapping o → IsScreen (after o s)
after_keeps s (Goto r c) ok accepts = record { size = ok.size; covered = ok.covered; row_in = accepts.0; col_in = accepts.1 }
after_keeps s Clear ok accepts =
    record { size = ok.size; covered = length-replicate (s.rows * s.cols) blank_cell; row_in = ok.row_in; col_in = ok.col_in }
after_keeps s Erase ok accepts =
    let cells : List Cell = parted (s.row * s.cols) s.cols s.col s.cells in
    let same : length cells ≡ length s.cells = length-parted (s.row * s.cols) s.cols s.col s.cells in
    let fits : s.row * s.cols + s.cols ≤ s.rows * s.cols = row_end s.row s.rows s.cols ok.row_in in
    let front : length (take (cursor_cell s) cells) ≡ cursor_cell s = length-take-le (cursor_cell s) cells (omega (arith, ok.covered, ok.col_in)) in
    let back : List Cell = drop (s.row * s.cols + s.cols) cells in
    let covered : length (take (cursor_cell s) cells ++ (replicate (s.cols - s.col) blank_cell ++ back)) ≡ s.rows * s.cols
    = rw (length-append (take (cursor_cell s) cells) (replicate (s.cols - s.col) blank_cell ++ back), length-append (replicate (s.cols - s.col) blank_cell) back)
    (omega (arith, front, length-replicate (s.cols - s.col) blank_cell, length-drop (s.row * s.cols + s.cols) cells, same, ok.covered, ok.col_in)) in
    record { size = ok.size; covered = covered; row_in = ok.row_in; col_in = ok.col_in }
after_keeps s Reverse ok accepts = record { size = ok.size; covered = ok.covered; row_in = ok.row_in; col_in = ok.col_in }
after_keeps s Plain ok accepts = record { size = ok.size; covered = ok.covered; row_in = ok.row_in; col_in = ok.col_in }
after_keeps s Unwrap ok accepts = record { size = ok.size; covered = ok.covered; row_in = ok.row_in; col_in = ok.col_in }
after_keeps s (Print c) ok accepts =
    let one : List Cell = parted (s.row * s.cols) s.cols s.col s.cells in
    let both : List Cell = parted (s.row * s.cols) s.cols (s.col + length (own_cells c)) one in
    let covered : length (written (cursor_cell s) (own_shown s.reversing c) both) ≡ s.rows * s.cols
    = length-written (cursor_cell s) (own_shown s.reversing c) both ∙ length-parted (s.row * s.cols) s.cols (s.col + length (own_cells c)) one ∙ length-parted (s.row * s.cols) s.cols s.col s.cells ∙ ok.covered in
    record { size = ok.size; covered = covered; row_in = ok.row_in; col_in = omega (arith, ok.size.some_cols) }
