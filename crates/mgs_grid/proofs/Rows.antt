-- The rows of a window, one after another.
use Rattle.std.proofs.Common.{◌≡◌, ℕ, suc, ◌+◌, ◌-◌, ◌<◌, ◌≤◌, List, [], ◌∷◌, ◌++◌, length, take, drop, set, sym, ap, ◌∙◌, arith, false, append_assoc}
use Rattle.std.specs.Prelude.{slice_range}
use Rattle.std.specs.List.{before_first, after_first, position_or_len}
use Rattle.std.proofs.lemmas.List.{take_more_set, length-set, drop-drop, drop_all}
use Rattle.mgs_model.specs.Cells.{cells}
use Rattle.mgs_model.specs.Lines.{line_end, is_feed}
use Rattle.mgs_model.specs.Rows.{Row, shown_row, text_rows}

-- the row that begins at a position
abbrev pub row_at : ℕ → ℕ → List ℕ → ℕ → Row
row_at cols shift xs start = record { text = shown_row cols shift (cells (slice_range xs start (line_end xs start))); reversed = false }

pub line_is : (xs : List ℕ) (start : ℕ) → slice_range xs start (line_end xs start) ≡ before_first is_feed (drop start xs)
line_is xs start =
    let e : start + position_or_len is_feed (drop start xs) - start ≡ position_or_len is_feed (drop start xs) = omega arith in
    ap (λ k. take k (drop start xs)) e

pub next_more : (xs : List ℕ) (start next : ℕ) → next ≡ line_end xs start + 1 → drop next xs ≡ after_first is_feed (drop start xs)
next_more xs start next e =
    let p : ℕ = position_or_len is_feed (drop start xs) in
    let f : next ≡ start + (p + 1) = omega arith in
    rw f (sym (drop-drop (p + 1) start xs))

pub next_none : (xs : List ℕ) (start next : ℕ) → next ≡ line_end xs start → length xs ≤ next → drop next xs ≡ after_first is_feed (drop start xs)
next_none xs start next e past =
    let p : ℕ = position_or_len is_feed (drop start xs) in
    drop_all next xs past ∙ sym (drop-drop (p + 1) start xs ∙ drop_all (start + (p + 1)) xs (omega arith))

pub rows_more : (cols : ℕ) (shift : ℕ → ℕ) (i start next : ℕ) (lines : List Row) (xs : List ℕ) (r : Row) → i < length lines → r ≡ row_at cols (shift i) xs start → drop next xs ≡ after_first is_feed (drop start xs) → take (i + 1) (set lines i r) ++ text_rows cols shift (i + 1) (length (set lines i r) - (i + 1)) (drop next xs) ≡ take i lines ++ text_rows cols shift i (length lines - i) (drop start xs)
rows_more cols shift i start next lines xs r within is on =
    let k : ℕ = length lines - (i + 1) in
    let left : length (set lines i r) - (i + 1) ≡ k = ap (λ n. n - (i + 1)) (length-set lines i r) in
    let right : length lines - i ≡ suc k = omega arith in
    let same : r ≡ record { text = shown_row cols (shift i) (cells (before_first is_feed (drop start xs))); reversed = false } = is ∙ ap (λ t. let w : Row = record { text = shown_row cols (shift i) (cells t); reversed = false } in w) (line_is xs start) in
    let rest : List Row = text_rows cols shift (i + 1) k (after_first is_feed (drop start xs)) in
    rw (left, right, on, take_more_set lines i r within, append_assoc (take i lines) (r ∷ []) rest) (ap (λ h. take i lines ++ (h ∷ rest)) same)
