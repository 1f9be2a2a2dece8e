-- Rows that are put into a picture leave a picture.
use Rattle.std.proofs.Common.{◌≡◌, ℕ, zero, suc, ◌+◌, ◌<◌, ◌≤◌, List, [], ◌∷◌, ◌++◌, length, get_or, take, drop, set, ◌-◌, refl, sym, ap, ◌∙◌, arith, false, All, append_assoc, length-append, length-take, length-drop, add-one}
use Rattle.std.proofs.lemmas.List.{set_split, length-replicate, length-set, length-take-le}
use Rattle.std.proofs.Math.Seq.{take-append_seam, set-append_seam}
use borrow.Rule.Slice.PartMut.{post_of, Post-is}
use Rattle.std.proofs.lemmas.List.Elements.{All-nil, All-cons, All-append, All-take, All-drop, All-replicate, All-same, All-set}
use Rattle.mgs_model.specs.declared.entry.Decision.{Decision}
use Rattle.mgs_model.specs.Lines.{is_feed}
use Rattle.std.specs.List.{after_first}
use Rattle.mgs_model.specs.Rows.{Row, plain_row, mode_row, blank_rows, text_rows, unread_rows, unread_text}
use Rattle.mgs_grid.specs.Cells.{rows_put}
use Rattle.mgs_model.specs.Picture.{IsRow, IsSize, Picture, IsPicture, blank_picture}
use Rattle.mgs_grid.proofs.Fits.{length-fitted, fitted_none}
use Rattle.mgs_grid.proofs.Printable.{fitted_whole}
use Rattle.mgs_model.specs.Cells.{AreCells, IsPrintable}
use Rattle.mgs_model.proofs.WholeCells.{printable_whole}

pub blank_width : (cols : ℕ) → length (plain_row cols []).text ≡ cols
blank_width cols = ap length (fitted_none 32 cols) ∙ length-replicate {A = ℕ} cols 32

pub whole_is : (cols : ℕ) (xs : List ℕ) → 2 ≤ cols → AreCells false xs → IsRow cols (plain_row cols xs)
whole_is cols xs some all = record { width = length-fitted 32 cols xs some; whole = fitted_whole 32 cols xs (omega arith, omega arith) all }

pub plain_is : (cols : ℕ) (xs : List ℕ) → 2 ≤ cols → All IsPrintable xs → IsRow cols (plain_row cols xs)
plain_is cols xs some all = whole_is cols xs some (printable_whole xs all)

pub mode_is : (cols : ℕ) (xs : List ℕ) → 2 ≤ cols → All IsPrintable xs → IsRow cols (mode_row cols xs)
mode_is cols xs some all = record { width = length-fitted 45 cols xs some; whole = fitted_whole 45 cols xs (omega arith, omega arith) (printable_whole xs all) }

pub blanks_are : (cols n : ℕ) → 2 ≤ cols → All (IsRow cols) (blank_rows cols n)
blanks_are cols n some = All-replicate (IsRow cols) n (plain_row cols []) (whole_is cols [] some tt)

pub one_is : (cols : ℕ) (r : Row) → IsRow cols r → All (IsRow cols) (r ∷ [])
one_is cols r h = All-cons (IsRow cols) r [] h (All-nil (IsRow cols))

-- how many they are
pub length-text_rows : (cols : ℕ) (shift : ℕ → ℕ) (i h : ℕ) (rest : List ℕ) → length (text_rows cols shift i h rest) ≡ h
length-text_rows cols shift i zero rest = refl
length-text_rows cols shift i (suc h) rest = ap suc (length-text_rows cols shift (i + 1) h (after_first is_feed rest))

pub length-blank_rows : (cols n : ℕ) → length (blank_rows cols n) ≡ n
length-blank_rows cols n = length-replicate n (plain_row cols [])

pub length-unread_rows : (cols n : ℕ) (d : Decision) → length (unread_rows cols n d) ≡ n
length-unread_rows cols zero d = refl
length-unread_rows cols (suc n) d = ap suc (length-blank_rows cols n)

-- rows of which all are put begin within
pub put_within : (first n rows : ℕ) (more old : List Row) → length more ≡ n → first + n ≤ rows → length (rows_put first more old) ≡ rows → first ≤ length old
put_within first n rows more old size fits all =
    omega (arith, length-append (take first old ++ more) (drop (first + length more) old), length-append (take first old) more, length-take first old, length-drop (first + length more) old)

-- blank rows, of which the first is drawn over
pub refused : (cols first n : ℕ) (d : Decision) (lines : List Row) (r : Row) → 0 < n → first ≤ length lines → r ≡ plain_row cols (unread_text d) → set (rows_put first (blank_rows cols n) lines) first r ≡ rows_put first (unread_rows cols n d) lines
refused cols first zero d lines r some fits is = absurd (omega arith)
refused cols first (suc n) d lines r some fits is =
    let front : List Row = take first lines in
    let blanks : List Row = blank_rows cols n in
    let rest : List Row = drop (first + suc (length blanks)) lines in
    let e : length front ≡ first = length-take-le first lines fits in
    ap (λ (k : List Row). set k first r) (append_assoc front (plain_row cols [] ∷ blanks) rest)
    ∙ ap (λ (k : ℕ). set (front ++ plain_row cols [] ∷ (blanks ++ rest)) k r) (sym e)
    ∙ set-append_seam front (plain_row cols []) (blanks ++ rest) r
    ∙ ap (λ (k : Row). front ++ k ∷ (blanks ++ rest)) is
    ∙ sym (append_assoc front (plain_row cols (unread_text d) ∷ blanks) rest)

-- one row
pub set_put : (rows : List Row) (i : ℕ) (r new : Row) → i < length rows → new ≡ r → set rows i new ≡ rows_put i (r ∷ []) rows
set_put rows i r new within is =
    ap (λ (k : Row). set rows i k) is
    ∙ set_split rows i r within
    ∙ sym (rw (add-one) (append_assoc (take i rows) (r ∷ []) (drop (suc i) rows)))

put_all : (P : Row → Type 0) (first : ℕ) (new old : List Row) → All P old → All P new → All P (rows_put first new old)
put_all P first new old all more =
    All-append P (take first old ++ new) (drop (first + length new) old) (All-append P (take first old) new (All-take P first old all) more) (All-drop P (first + length new) old all)

pub length-rows_put : (first : ℕ) (new old : List Row) → first + length new ≤ length old → length (rows_put first new old) ≡ length old
length-rows_put first new old fits =
    omega (arith, length-append (take first old ++ new) (drop (first + length new) old), length-append (take first old) new, length-take first old, length-drop (first + length new) old)

-- the rows as they are written back
pub put_picture : (p : Picture) (first n : ℕ) (more lines new : List Row) → IsPicture p → lines ≡ p.lines → length lines ≡ n → new ≡ rows_put first more lines → first + length more ≤ p.rows → All (IsRow p.cols) more → IsPicture (record p { lines = take n (new ++ drop (length new) p.lines) })
put_picture p first n more lines new is same count put fits each =
    let long : length lines ≡ p.rows = ap length same ∙ is.count in
    let old : All (IsRow p.cols) lines = All-same (IsRow p.cols) lines p.lines same is.each in
    let size : length new ≡ n = ap length put ∙ length-rows_put first more lines (omega arith) ∙ count in
    let back : take n (new ++ drop (length new) p.lines) ≡ new = ap (λ k. take k (new ++ drop (length new) p.lines)) (sym size) ∙ take-append_seam new (drop (length new) p.lines) in
    record {
      size = is.size;
      count = ap length back ∙ size ∙ sym count ∙ long;
      each = All-same (IsRow p.cols) (take n (new ++ drop (length new) p.lines)) new back (All-same (IsRow p.cols) new (rows_put first more lines) put (put_all (IsRow p.cols) first more lines old each));
      row = is.row;
      col = is.col;
    }

-- a window of rows, drawn over
pub window_put : (first h : ℕ) (new more lines : List Row) → new ≡ more → length more ≡ h → take first lines ++ (new ++ post_of first (first + h - first) lines) ≡ rows_put first more lines
window_put first h new more lines is size =
    let tail : post_of first (first + h - first) lines ≡ drop (first + length more) lines = Post-is first (first + h) lines (omega arith) ∙ ap (λ (k : ℕ). drop (first + k) lines) (sym size) in
    ap (λ (k : List Row). take first lines ++ (k ++ post_of first (first + h - first) lines)) is
    ∙ ap (λ (k : List Row). take first lines ++ (more ++ k)) tail
    ∙ sym (append_assoc (take first lines) more (drop (first + length more) lines))

-- one row, drawn over
pub set_picture : (p : Picture) (i : ℕ) (r : Row) → IsPicture p → IsRow p.cols r → IsPicture (record p { lines = set p.lines i r })
set_picture p i r is row =
    record {
      size = is.size;
      count = length-set p.lines i r ∙ is.count;
      each = All-set (IsRow p.cols) p.lines i r row is.each;
      row = is.row;
      col = is.col;
    }

pub row_width : (p : Picture) (i : ℕ) (r : Row) → IsPicture p → i < p.rows → r ≡ get_or p.lines i r → length r.text ≡ p.cols
row_width p i r is within at = ap (λ (k : Row). length k.text) at ∙ (is.each i r (omega (arith, is.count, within))).width

-- other rows in the same picture, seen from outside
pub with_lines : (p q : Picture) (lines : Picture → List Row) (new : List Row) → p ≡ q → new ≡ lines p → record p { lines = new } ≡ record q { lines = lines q }
with_lines p q lines new same is = rw (← same, is) refl

pub blank_is : (rows cols : ℕ) → IsSize rows cols → IsPicture (blank_picture rows cols)
blank_is rows cols h =
    record { size = h; count = length-blank_rows cols rows; each = blanks_are cols rows (omega arith); row = omega arith; col = omega arith }
