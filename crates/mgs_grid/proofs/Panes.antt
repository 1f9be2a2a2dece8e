-- One row of a text is drawn where the others stand already.
use Rattle.std.proofs.Common.{◌≡◌, ℕ, zero, suc, ◌+◌, ◌-◌, ◌<◌, ◌≤◌, List, [], ◌∷◌, ◌++◌, length, take, drop, set, inl, inr, refl, sym, ap, ◌∙◌, arith, add-zero, zero-add, false, length-append}
use Rattle.std.specs.List.{before_first, after_first}
use Rattle.std.proofs.lemmas.Bool.{cases_eq, eq-eqb, ne_eqb}
use Rattle.std.proofs.lemmas.List.{drop_all, set-append_left, set-append_right, length-set, length-take-le, drop-drop, take-append-le, take-take}
use Rattle.std.proofs.Math.Seq.{drop-append-add}
use Rattle.mgs_model.specs.Cells.{cells}
use Rattle.mgs_model.specs.Lines.{is_feed, start_of}
use Rattle.mgs_model.specs.Rows.{Row, shown_row, text_rows, shift_at}
use Rattle.mgs_grid.specs.Cells.{rows_put}
use Rattle.mgs_model.specs.Picture.{Picture}
use Rattle.mgs_grid.specs.Panes.{AreSameBut, IsDrawnBut, TextPane, text_put}
use Rattle.mgs_grid.proofs.Edited.{past_other}
use Rattle.mgs_grid.proofs.Pictures.{set_put, length-text_rows}

-- the row that shows a text's first line
abbrev pub line_of_text : ℕ → ℕ → List ℕ → Row
line_of_text cols shift rest = record { text = shown_row cols shift (cells (before_first is_feed rest)); reversed = false }

-- where the next line starts
start_next : (i : ℕ) (rest : List ℕ) → drop (start_of (suc i) rest) rest ≡ drop (start_of i (after_first is_feed rest)) (after_first is_feed rest)
start_next i [] = sym (drop_all (start_of i []) [] (omega arith))
start_next i (c ∷ cs) =
    elim (cases_eq c 10) [
      | inl e ↦
          let next : 1 + start_of i cs ≡ suc (start_of i cs) = omega arith in
          rw (eq-eqb c 10 e) (ap (λ k. drop k (c ∷ cs)) next)
      | inr n ↦
          let next : start_of (suc i) (c ∷ cs) ≡ suc (start_of (suc i) cs) = rw (ne_eqb c 10 n) (omega arith) in
          ap (λ k. drop k (c ∷ cs)) next ∙ start_next i cs ∙ ap (λ (ys : List ℕ). drop (start_of i ys) ys) (sym (past_other c cs n))
    ]

-- the row of a line is in its place
row_of_line : (cols : ℕ) (shift : ℕ → ℕ) (j i h : ℕ) (rest : List ℕ) → i < h → set (text_rows cols shift j h rest) i (line_of_text cols (shift (j + i)) (drop (start_of i rest) rest)) ≡ text_rows cols shift j h rest
row_of_line cols shift j i zero rest within = absurd (omega arith)
row_of_line cols shift j zero (suc h) rest within = ap (λ k. line_of_text cols (shift k) rest ∷ text_rows cols shift (j + 1) h (after_first is_feed rest)) (add-zero j)
row_of_line cols shift j (suc i) (suc h) rest within =
    let next : j + 1 + i ≡ j + suc i = omega arith in
    ap (λ (rs : List Row). line_of_text cols (shift j) rest ∷ rs) (
    ap (λ (ys : List ℕ). set (text_rows cols shift (j + 1) h (after_first is_feed rest)) i (line_of_text cols (shift (j + suc i)) ys)) (start_next i rest)
    ∙ ap (λ k. set (text_rows cols shift (j + 1) h (after_first is_feed rest)) i (line_of_text cols (shift k) (drop (start_of i (after_first is_feed rest)) (after_first is_feed rest)))) (sym next)
    ∙ row_of_line cols shift (j + 1) i h (after_first is_feed rest) (omega arith))

-- a row inside of rows that are put
set_inside : (first i : ℕ) (rows old : List Row) (r : Row) → i < length rows → first ≤ length old → set (rows_put first rows old) (first + i) r ≡ rows_put first (set rows i r) old
set_inside first i rows old r within begins =
    let front : List Row = take first old in
    let back : List Row = drop (first + length rows) old in
    let e : length front ≡ first = length-take-le first old begins in
    let from : first + i - first ≡ i = omega arith in
    set-append_left (front ++ rows) back (first + i) r (omega (arith, length-append front rows))
    ∙ ap (λ (k : List Row). k ++ back) (set-append_right front rows first (first + i) r e (omega arith))
    ∙ ap (λ (k : ℕ). (front ++ set rows k r) ++ back) from
    ∙ ap (λ (k : ℕ). (front ++ set rows i r) ++ drop (first + k) old) (sym (length-set rows i r))

-- rows are put by one of them where the others stand already
one_row : (at first i : ℕ) (rows lines : List Row) (r : Row) → at ≡ first + i → i < length rows → first + length rows ≤ length lines → set rows i r ≡ rows → AreSameBut at lines (rows_put first rows lines) → rows_put at (r ∷ []) lines ≡ rows_put first rows lines
one_row at first i rows lines r is within fits there same =
    sym (set_put lines at r r (omega arith) refl)
    ∙ same r
    ∙ ap (λ (k : ℕ). set (rows_put first rows lines) k r) is
    ∙ set_inside first i rows lines r within (omega arith)
    ∙ ap (λ (rs : List Row). rows_put first rs lines) there

pub text_by_row : (i at start from : ℕ) (pane : TextPane) (text : List ℕ) (p : Picture) → length p.lines ≡ p.rows → IsDrawnBut i at start from pane text p
    → text_put at 1 0 from (drop start text) p ≡ text_put pane.first pane.height pane.row pane.shift (drop pane.top text) p
text_by_row i at start from pane text p count is =
    let first : ℕ = pane.first in
    let height : ℕ = pane.height in
    let top : ℕ = pane.top in
    let rest : List ℕ = drop top text in
    let shifts : ℕ → ℕ = shift_at pane.row pane.shift in
    let rows : List Row = text_rows p.cols shifts 0 height rest in
    let size : length rows ≡ height = length-text_rows p.cols shifts 0 height rest in
    let line : drop start text ≡ drop (start_of i rest) rest = ap (λ k. drop k text) is.line ∙ sym (drop-drop (start_of i rest) top text) in
    let drawn : Row = line_of_text p.cols from (drop start text) in
    let same : drawn ≡ line_of_text p.cols (shifts (0 + i)) (drop (start_of i rest) rest) =
    ap (line_of_text p.cols from) line ∙ ap (λ k. line_of_text p.cols k (drop (start_of i rest) rest)) (is.column ∙ ap shifts (sym (zero-add i))) in
    let there : set rows i drawn ≡ rows = ap (set rows i) same ∙ row_of_line p.cols shifts 0 i height rest is.within in
    one_row at first i rows p.lines drawn is.place (omega (arith, size, is.within)) (omega (arith, size, count, is.fits)) there is.others

-- WHAT A CALLER KNOWS OF OTHER ROWS

-- rows above those that are put
pub above_put : (k first : ℕ) (new old : List Row) → k ≤ first → first ≤ length old → take k (rows_put first new old) ≡ take k old
above_put k first new old above within =
    let front : List Row = take first old in
    let e : length front ≡ first = length-take-le first old within in
    take-append-le k (front ++ new) (drop (first + length new) old) (omega (arith, e, length-append front new))
    ∙ take-append-le k front new (omega (arith, e))
    ∙ take-take k first old above

-- and below them
pub below_put : (k first : ℕ) (new old : List Row) → first + length new ≤ k → first ≤ length old → drop k (rows_put first new old) ≡ drop k old
below_put k first new old below within =
    let front : List Row = take first old ++ new in
    let n : ℕ = first + length new in
    let e : length front ≡ n = omega (arith, length-append (take first old) new, length-take-le first old within) in
    let split : k ≡ length front + (k - n) = omega arith in
    let whole : n + (k - n) ≡ k = omega arith in
    ap (λ (j : ℕ). drop j (rows_put first new old)) split
    ∙ drop-append-add front (drop n old) (k - n)
    ∙ drop-drop (k - n) n old
    ∙ ap (λ (j : ℕ). drop j old) whole

-- a pane's rows put in place of others that are the same but for one
pub same_put : (first i : ℕ) (olds news base : List Row) → length olds ≡ length news → i < length news → first ≤ length base → AreSameBut i olds news → AreSameBut (first + i) (rows_put first olds base) (rows_put first news base)
same_put first i olds news base size within begins same = λ r.
    set_inside first i olds base r (omega arith) begins
    ∙ ap (λ (rs : List Row). rows_put first rs base) (same r)
    ∙ sym (set_inside first i news base r within begins)

-- the same rows put once more
pub put_again : (first : ℕ) (olds news base : List Row) → length olds ≡ length news → first ≤ length base → rows_put first news (rows_put first olds base) ≡ rows_put first news base
put_again first olds news base size begins =
    let n : ℕ = first + length news in
    ap (λ (k : List Row). (k ++ news) ++ drop n (rows_put first olds base)) (above_put first first olds base (omega arith) begins)
    ∙ ap (λ (k : List Row). (take first base ++ news) ++ k) (below_put n first olds base (omega arith) begins)
