-- Rows of a list that are drawn one after another, of which some are in sight.
use Rattle.std.proofs.Common.{◌≡◌, ℕ, zero, suc, ◌+◌, ◌-◌, ◌<◌, ◌≤◌, nat_le, true, List, [], ◌∷◌, ◌++◌, length, map, take, drop, refl, sym, ap, ◌∙◌, arith, inl, inr, append_assoc, length-append, length-take, length-drop}
use Rattle.std.proofs.Math.Seq.{take-append_seam, take-append-add, drop-append-add}
use Rattle.std.proofs.lemmas.Bool.{cases_lt, and_parts, leb-true, lt-leb, le-leb, lt-ltb, le-ltb}
use Rattle.std.proofs.lemmas.List.{length-map, length-replicate, map-append, take_all, take-append-le, drop-append-le, drop_all, length-take-le}
use Rattle.mgs_model.specs.Rows.{Row, plain_row, mode_row, blank_rows}
use Rattle.mgs_grid.specs.Cells.{rows_put}
use Rattle.mgs_model.specs.Draw.{rows_from}
use Rattle.mgs_model.specs.Picture.{Picture}
use Rattle.mgs_grid.proofs.Pictures.{length-rows_put}
use Rattle.mgs_screen.specs.Listings.{past_sight, row_drawn, drawn}
use Rattle.mgs_screen.specs.declared.list_rows.Sight.{Sight}
use Rattle.mgs_screen.proofs.Drawings.{below_rows}

-- A ROW IN A LIST OF ROWS

take_none : (h : ℕ) → take {A = List ℕ} h [] ≡ []
take_none zero = refl
take_none (suc h) = refl

seen_none : (h row : ℕ) (texts : List (List ℕ)) → length texts ≤ row → take h (drop row texts) ≡ []
seen_none h row texts past = ap (take h) (drop_all row texts past) ∙ take_none h

abbrev from_seen : ℕ → ℕ → List (List ℕ) → List Row
from_seen cols height seen = map (plain_row cols) seen ++ blank_rows cols (height - length seen)

pub length-rows_from : (cols h row : ℕ) (texts : List (List ℕ)) → length (rows_from cols h row texts) ≡ h
length-rows_from cols h row texts =
    let seen : List (List ℕ) = take h (drop row texts) in
    let n : length seen ≤ h = omega (arith, length-take h (drop row texts)) in
    omega (arith, n, length-append (map (plain_row cols) seen) (blank_rows cols (h - length seen)), length-map seen (plain_row cols), length-replicate (h - length seen) (plain_row cols []))

-- rows put inside rows that were put
nested : (a b c d e : List Row) → a ++ b ++ c ++ (d ++ e) ≡ a ++ (b ++ c ++ d) ++ e
nested [] b c d e = sym (append_assoc (b ++ c) d e)
nested (x ∷ a) b c d e = ap (λ (xs : List Row). x ∷ xs) (nested a b c d e)

put_inside : (first k : ℕ) (new mid old : List Row) → k + length new ≤ length mid → first + length mid ≤ length old → rows_put (first + k) new (rows_put first mid old) ≡ rows_put first (rows_put k new mid) old
put_inside first k new mid old within fits =
    let front : List Row = take first old in
    let rest : List Row = drop (first + length mid) old in
    let n : length front ≡ first = length-take-le first old (omega (arith, fits)) in
    let all : front ++ mid ++ rest ≡ front ++ (mid ++ rest) = append_assoc front mid rest in
    let m : ℕ = k + length new in
    let before : take (first + k) (front ++ mid ++ rest) ≡ front ++ take k mid =
    ap (take (first + k)) all
    ∙ ap (λ (i : ℕ). take (i + k) (front ++ (mid ++ rest))) (sym n)
    ∙ take-append-add front (mid ++ rest) k
    ∙ ap (λ (xs : List Row). front ++ xs) (take-append-le k mid rest (omega (arith, within))) in
    let sum : first + k + length new ≡ length front + m = omega (arith, n) in
    let behind : drop (first + k + length new) (front ++ mid ++ rest) ≡ drop m mid ++ rest =
    ap (drop (first + k + length new)) all
    ∙ ap (λ (i : ℕ). drop i (front ++ (mid ++ rest))) sum
    ∙ drop-append-add front (mid ++ rest) m
    ∙ drop-append-le m mid rest within in
    let size : first + length mid ≡ first + length (rows_put k new mid) = omega (arith, length-rows_put k new mid within) in
    ap (λ (xs : List Row). xs ++ new ++ drop (first + k + length new) (front ++ mid ++ rest)) before
    ∙ ap (λ (xs : List Row). front ++ take k mid ++ new ++ xs) behind
    ∙ nested front (take k mid) new (drop m mid) rest
    ∙ ap (λ (i : ℕ). front ++ rows_put k new mid ++ drop i old) size

put_seam : (k : ℕ) (front back : List Row) (r b : Row) → length front ≡ k → rows_put k (r ∷ []) (front ++ b ∷ back) ≡ front ++ r ∷ [] ++ back
put_seam k front back r b n =
    ap (λ (i : ℕ). take i (front ++ b ∷ back) ++ r ∷ [] ++ drop (i + 1) (front ++ b ∷ back)) (sym n)
    ∙ ap (λ (xs : List Row). xs ++ r ∷ [] ++ drop (length front + 1) (front ++ b ∷ back)) (take-append_seam front (b ∷ back))
    ∙ ap (λ (xs : List Row). front ++ r ∷ [] ++ xs) (drop-append-add front (b ∷ back) 1)

-- ONE TEXT MORE

blank_first : (cols n m : ℕ) → n ≡ suc m → blank_rows cols n ≡ plain_row cols [] ∷ blank_rows cols m
blank_first cols n m e = ap (blank_rows cols) e

-- it is in sight
from_more : (cols h row : ℕ) (texts : List (List ℕ)) (text : List ℕ) → row ≤ length texts → length texts - row < h
    → rows_put (length texts - row) (plain_row cols text ∷ []) (rows_from cols h row texts) ≡ rows_from cols h row (texts ++ text ∷ [])
from_more cols h row texts text from sight =
    let rest : List (List ℕ) = drop row texts in
    let k : ℕ = length texts - row in
    let m : ℕ = h - (k + 1) in
    let n : length rest ≡ k = length-drop row texts in
    let old : take h rest ≡ rest = take_all h rest (omega (arith, n, sight)) in
    let longer : length (rest ++ text ∷ []) ≡ k + 1 = omega (arith, n, length-append rest (text ∷ [])) in
    let new : take h (drop row (texts ++ text ∷ [])) ≡ rest ++ text ∷ [] = ap (take h) (drop-append-le row texts (text ∷ []) from) ∙ take_all h (rest ++ text ∷ []) (omega (arith, longer, sight)) in
    let rows : List Row = map (plain_row cols) rest in
    let blank : blank_rows cols (h - length rest) ≡ plain_row cols [] ∷ blank_rows cols m = blank_first cols (h - length rest) m (omega (arith, n, sight)) in
    let before : rows_from cols h row texts ≡ rows ++ plain_row cols [] ∷ blank_rows cols m = ap (from_seen cols h) old ∙ ap (λ (bs : List Row). rows ++ bs) blank in
    let after : rows_from cols h row (texts ++ text ∷ []) ≡ rows ++ plain_row cols text ∷ [] ++ blank_rows cols m =
    ap (from_seen cols h) new
    ∙ ap (λ (i : ℕ). map (plain_row cols) (rest ++ text ∷ []) ++ blank_rows cols (h - i)) longer
    ∙ ap (λ (xs : List Row). xs ++ blank_rows cols m) (map-append (plain_row cols) rest (text ∷ [])) in
    ap (rows_put k (plain_row cols text ∷ [])) before
    ∙ put_seam k rows (blank_rows cols m) (plain_row cols text) (plain_row cols []) (length-map rest (plain_row cols) ∙ n)
    ∙ sym after

-- the rows before the first one in sight are not seen
from_before : (cols h row : ℕ) (texts : List (List ℕ)) (text : List ℕ) → length texts < row → rows_from cols h row texts ≡ rows_from cols h row (texts ++ text ∷ [])
from_before cols h row texts text before =
    let old : take h (drop row texts) ≡ [] = seen_none h row texts (omega (arith, before)) in
    let new : take h (drop row (texts ++ text ∷ [])) ≡ [] = seen_none h row (texts ++ text ∷ []) (omega (arith, before, length-append texts (text ∷ []))) in
    ap (from_seen cols h) (old ∙ sym new)

-- nor those after the last one
from_past : (cols h row : ℕ) (texts more : List (List ℕ)) → row ≤ length texts → h ≤ length texts - row → rows_from cols h row texts ≡ rows_from cols h row (texts ++ more)
from_past cols h row texts more from past =
    let longer : drop row (texts ++ more) ≡ drop row texts ++ more = drop-append-le row texts more from in
    let same : take h (drop row (texts ++ more)) ≡ take h (drop row texts) = ap (take h) longer ∙ take-append-le h (drop row texts) more (omega (arith, past, length-drop row texts)) in
    ap (from_seen cols h) (sym same)

with_rows : (first : ℕ) (p : Picture) (a b : List Row) → a ≡ b → record p { lines = rows_put first a p.lines } ≡ record p { lines = rows_put first b p.lines }
with_rows first p a b e = ap (λ (rows : List Row). record p { lines = rows_put first rows p.lines }) e

pub row_more : (s : Sight) (texts : List (List ℕ)) (text : List ℕ) (p : Picture) → s.first + s.height ≤ length p.lines
    → row_drawn s (length texts) text (drawn s texts p) ≡ drawn s (texts ++ text ∷ []) p
row_more s texts text p fits =
    let old : List Row = rows_from p.cols s.height s.row texts in
    let new : List Row = rows_from p.cols s.height s.row (texts ++ text ∷ []) in
    let n : length old ≡ s.height = length-rows_from p.cols s.height s.row texts in
    elim (cases_lt (length texts) s.row) [
      | inl before ↦ rw (lt-leb s.row (length texts) before) (with_rows s.first p old new (from_before p.cols s.height s.row texts text before))
      | inr from ↦ elim (cases_lt (length texts - s.row) s.height) [
        | inl sight ↦
            let inside : rows_put (s.first + (length texts - s.row)) (plain_row p.cols text ∷ []) (rows_put s.first old p.lines) ≡ rows_put s.first (rows_put (length texts - s.row) (plain_row p.cols text ∷ []) old) p.lines =
            put_inside s.first (length texts - s.row) (plain_row p.cols text ∷ []) old p.lines (omega (arith, n, sight)) (omega (arith, n, fits)) in
            rw (le-leb s.row (length texts) from, lt-ltb (length texts - s.row) s.height sight)
            (ap (λ (rows : List Row). record p { lines = rows }) inside ∙ with_rows s.first p (rows_put (length texts - s.row) (plain_row p.cols text ∷ []) old) new (from_more p.cols s.height s.row texts text from sight))
        | inr past ↦ rw (le-leb s.row (length texts) from, le-ltb (length texts - s.row) s.height past) (with_rows s.first p old new (from_past p.cols s.height s.row texts (text ∷ []) from past))
      ]
    ]

-- from a number past the sight on, nothing more is drawn
pub drawn_past : (s : Sight) (n : ℕ) (texts more : List (List ℕ)) (p : Picture) → n ≡ length texts → past_sight s n ≡ true
    → drawn s texts p ≡ drawn s (texts ++ more) p
drawn_past s n texts more p is past =
    let both : (nat_le s.row n ≡ true) × (nat_le s.height (n - s.row) ≡ true) = and_parts (nat_le s.row n) (nat_le s.height (n - s.row)) past in
    let from : s.row ≤ n = leb-true s.row n both.0 in
    let below : s.height ≤ n - s.row = leb-true s.height (n - s.row) both.1 in
    with_rows s.first p (rows_from p.cols s.height s.row texts) (rows_from p.cols s.height s.row (texts ++ more)) (from_past p.cols s.height s.row texts more (omega (arith, is, from)) (omega (arith, is, below)))

-- no text
pub drawn_none : (s : Sight) (p new : Picture) → new ≡ record p { lines = rows_put s.first (blank_rows p.cols s.height) p.lines } → new ≡ drawn s [] p
drawn_none s p new is =
    let whole : s.height ≡ s.height - 0 = omega arith in
    let none : blank_rows p.cols s.height ≡ rows_from p.cols s.height s.row [] = ap (blank_rows p.cols) whole ∙ ap (from_seen p.cols s.height) (sym (seen_none s.height s.row [] (omega arith))) in
    is ∙ with_rows s.first p (blank_rows p.cols s.height) (rows_from p.cols s.height s.row []) none

-- the mode line below
pub mode_below : (first h row : ℕ) (texts : List (List ℕ)) (text : List ℕ) (old between new : Picture) → first + h ≤ length old.lines
    → between ≡ drawn (record { first = first; height = h; row = row }) texts old
    → new ≡ record between { lines = rows_put (first + h) (mode_row between.cols text ∷ []) between.lines }
    → new ≡ record old { lines = rows_put first (rows_from old.cols h row texts ++ mode_row old.cols text ∷ []) old.lines }
mode_below first h row texts text old between new fits = below_rows first h (rows_from old.cols h row texts) text old between new fits (length-rows_from old.cols h row texts)
