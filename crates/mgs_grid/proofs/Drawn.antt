-- The walk along a line writes its cells.
use Rattle.std.proofs.Common.{◌≡◌, ℕ, ◌+◌, ◌-◌, ◌<◌, ◌≤◌, List, ◌∷◌, ◌++◌, length, take, drop, get_or, sym, ap, ◌∙◌, zero-add, arith, length-append, drop-drop}
use Rattle.std.specs.Prelude.{slice_range}
use Rattle.std.proofs.lemmas.List.{drop_more, take-append-le}
use Rattle.std.proofs.Math.Seq.{take-add}
use Rattle.mgs_model.specs.Cells.{glyph, cells, cells_from}
use Rattle.mgs_lines.proofs.Walks.{cells_from-append}
use Rattle.mgs_grid.specs.Cells.{over}
use Rattle.mgs_grid.proofs.CellLemmas.{over-append}

-- CHARACTERS FROM A COLUMN ON

rest_is : (chars : List ℕ) (i n c : ℕ) → i < length chars → c ≡ get_or chars i 0 → cells_from n (drop i chars) ≡ glyph n c ++ cells_from (n + length (glyph n c)) (drop (i + 1) chars)
rest_is chars i n c within at = ap (cells_from n) (drop_more chars i 0 within ∙ ap (λ (k : ℕ). k ∷ drop (i + 1) chars) (sym at))

pub chars_more : (chars row new all : List ℕ) (s i n m c : ℕ) → i < length chars → c ≡ get_or chars i 0 → new ≡ over row s n (glyph n c) → m ≡ n + length (glyph n c) → over row s n (cells_from n (drop i chars)) ≡ all → over new s m (cells_from m (drop (i + 1) chars)) ≡ all
chars_more chars row new all s i n m c within at put next so_far =
    let rest : List ℕ = drop (i + 1) chars in
    rw (put, next) (sym (over-append row s n (glyph n c) (cells_from (n + length (glyph n c)) rest)) ∙ sym (ap (over row s n) (rest_is chars i n c within at)) ∙ so_far)

pub ends_more : (chars : List ℕ) (i n m c all : ℕ) → i < length chars → c ≡ get_or chars i 0 → m ≡ n + length (glyph n c) → n + length (cells_from n (drop i chars)) ≡ all → m + length (cells_from m (drop (i + 1) chars)) ≡ all
ends_more chars i n m c all within at next so_far =
    let k : ℕ = n + length (glyph n c) in
    let rest : List ℕ = cells_from k (drop (i + 1) chars) in
    let sum : length (cells_from n (drop i chars)) ≡ length (glyph n c) + length rest = ap length (rest_is chars i n c within at) ∙ length-append (glyph n c) rest in
    rw (next) (omega (arith, sum, so_far))

-- two texts, one behind the other
pub chars_both : (a b row first new : List ℕ) (s n : ℕ) → first ≡ over row s 0 (cells_from 0 a) → n ≡ 0 + length (cells_from 0 a) → new ≡ over first s n (cells_from n b) → new ≡ over row s 0 (cells (a ++ b))
chars_both a b row first new s n front next put =
    put ∙ rw (front, next) (sym (ap (over row s 0) (cells_from-append 0 a b) ∙ over-append row s 0 (cells_from 0 a) (cells_from (0 + length (cells_from 0 a)) b)))

pub ends_both : (a b : List ℕ) (n m : ℕ) → n ≡ 0 + length (cells_from 0 a) → m ≡ n + length (cells_from n b) → m ≡ length (cells (a ++ b))
ends_both a b n m next end =
    let rest : List ℕ = cells_from (0 + length (cells_from 0 a)) b in
    let sum : length (cells (a ++ b)) ≡ length (cells_from 0 a) + length rest = ap length (cells_from-append 0 a b) ∙ length-append (cells_from 0 a) rest in
    end ∙ rw (next) (omega (arith, sum))

-- THE PIECES OF A TEXT

piece_more : (xs p : List ℕ) (s i k : ℕ) → s ≤ i → k ≤ length p → drop i xs ≡ p ++ drop (i + length p) xs → slice_range xs s (i + k) ≡ slice_range xs s i ++ take k p
piece_more xs p s i k from within is =
    let sum : i + k - s ≡ (i - s) + k = omega arith in
    let at : s + (i - s) ≡ i = omega arith in
    ap (λ n. take n (drop s xs)) sum
    ∙ take-add (i - s) k (drop s xs)
    ∙ ap (λ (l : List ℕ). take (i - s) (drop s xs) ++ take k l) (drop-drop (i - s) s xs ∙ ap (λ j. drop j xs) at ∙ is)
    ∙ ap (λ (l : List ℕ). take (i - s) (drop s xs) ++ l) (take-append-le k p (drop (i + length p) xs) within)

pub drawn_more : (xs p first row new : List ℕ) (shift s i n k : ℕ) → s ≤ i → k ≤ length p → drop i xs ≡ p ++ drop (i + length p) xs → row ≡ over first shift 0 (cells (slice_range xs s i)) → n ≡ length (cells (slice_range xs s i)) → new ≡ over row shift n (cells_from n (take k p)) → new ≡ over first shift 0 (cells (slice_range xs s (i + k)))
drawn_more xs p first row new shift s i n k from within is so_far col put =
    chars_both (slice_range xs s i) (take k p) first row new shift n so_far (col ∙ sym (zero-add (length (cells (slice_range xs s i))))) put
    ∙ sym (ap (λ (l : List ℕ). over first shift 0 (cells l)) (piece_more xs p s i k from within is))

pub columns_more : (xs p : List ℕ) (s i n m k : ℕ) → s ≤ i → k ≤ length p → drop i xs ≡ p ++ drop (i + length p) xs → n ≡ length (cells (slice_range xs s i)) → m ≡ n + length (cells_from n (take k p)) → m ≡ length (cells (slice_range xs s (i + k)))
columns_more xs p s i n m k from within is col end =
    ends_both (slice_range xs s i) (take k p) n m (col ∙ sym (zero-add (length (cells (slice_range xs s i))))) end
    ∙ sym (ap (λ (l : List ℕ). length (cells l)) (piece_more xs p s i k from within is))
