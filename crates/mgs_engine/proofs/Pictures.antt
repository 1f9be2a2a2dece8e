-- Whether two pictures are one.
use Rattle.std.proofs.Common.{◌≡◌, ℕ, zero, suc, ◌+◌, ◌<◌, ◌==◌, Bool, true, false, not, ◌&&◌, List, [], ◌∷◌, length, get_or, drop, refl, ap, ◌∙◌, arith}
use Rattle.std.specs.Bool.{Decides, beq}
use Rattle.std.specs.Prelude.{nat_eq}
use Rattle.std.specs.Cmp.{booleans_Decides}
use Rattle.std.specs.Cmp.Lexicographic.{pointwise}
use Rattle.std.proofs.lemmas.Bool.Decides.{Decides-eqb}
use Rattle.std.proofs.lemmas.Slice.Eq.{slice_eq-Decides}
use Rattle.mgs_model.specs.Rows.{Row}
use Rattle.mgs_model.specs.Picture.{Picture}
use Rattle.mgs_engine.specs.Slow.{falls_behind, is_past, same_row, same_size, same_cursor, same_picture}

pub same_lengths : (xs ys : List Row) → (length xs ≡ length ys → ⊥) → false ≡ pointwise same_row xs ys
same_lengths [] [] n = absurd (n refl)
same_lengths [] (y ∷ ys) n = refl
same_lengths (x ∷ xs) [] n = refl
same_lengths (x ∷ xs) (y ∷ ys) n =
    elim (same_row x y) as (λ b. false ≡ b && pointwise same_row xs ys) [
      | true ↦ same_lengths xs ys (λ e. n (ap suc e))
      | false ↦ refl
    ]

same_next : (xs ys : List Row) (i : ℕ) (d e : Row) → i < length xs → i < length ys → pointwise same_row (drop i xs) (drop i ys) ≡ same_row (get_or xs i d) (get_or ys i e) && pointwise same_row (drop (suc i) xs) (drop (suc i) ys)
same_next [] ys i d e l m = absurd (omega arith)
same_next (x ∷ xs) [] i d e l m = absurd (omega arith)
same_next (x ∷ xs) (y ∷ ys) zero d e l m = refl
same_next (x ∷ xs) (y ∷ ys) (suc i) d e l m = same_next xs ys i d e (omega arith) (omega arith)

-- the rows from one on are the same where this one is, and those after it
pub same_from : (xs ys : List Row) (i : ℕ) (d e : Row) → i < length xs → i < length ys → pointwise same_row (drop i xs) (drop i ys) ≡ same_row (get_or xs i d) (get_or ys i e) && pointwise same_row (drop (i + 1) xs) (drop (i + 1) ys)
same_from xs ys i d e l m =
    let one : suc i ≡ i + 1 = omega arith in
    same_next xs ys i d e l m ∙ ap (λ n. same_row (get_or xs i d) (get_or ys i e) && pointwise same_row (drop n xs) (drop n ys)) one

-- BOTH TESTS

both : (P Q R : Type 0) (p q : Bool) → Decides p P → Decides q Q → (P → Q → R) → (R → P) → (R → Q) → Decides (p && q) R
both P Q R true q h k f g i = (λ e. f (h.0 refl) (k.0 e), λ r. k.1 (i r))
both P Q R false q h k f g i = (λ e. cc, λ r. h.1 (g r))

row_Decides : (a b : Row) → Decides (same_row a b) (a ≡ b)
row_Decides a b =
    both (a.reversed ≡ b.reversed) (a.text ≡ b.text) (a ≡ b) (beq a.reversed b.reversed) (pointwise nat_eq a.text b.text)
    (booleans_Decides a.reversed b.reversed)
    (slice_eq-Decides Decides-eqb a.text b.text (pointwise nat_eq a.text b.text) refl)
    (λ r t. let of : List ℕ → Bool → Row = λ xs c. record { text = xs; reversed = c } in ap (λ xs. of xs a.reversed) t ∙ ap (of b.text) r)
    (ap (λ (r : Row). r.reversed))
    (ap (λ (r : Row). r.text))

size_Decides : (a b : Picture) → Decides (same_size a b) ((a.rows ≡ b.rows) × (a.cols ≡ b.cols))
size_Decides a b =
    both (a.rows ≡ b.rows) (a.cols ≡ b.cols) ((a.rows ≡ b.rows) × (a.cols ≡ b.cols)) (a.rows == b.rows) (a.cols == b.cols)
    (Decides-eqb a.rows b.rows) (Decides-eqb a.cols b.cols) (λ r c. (r, c)) (λ h. h.0) (λ h. h.1)

cursor_Decides : (a b : Picture) → Decides (same_cursor a b) ((a.row ≡ b.row) × (a.col ≡ b.col))
cursor_Decides a b =
    both (a.row ≡ b.row) (a.col ≡ b.col) ((a.row ≡ b.row) × (a.col ≡ b.col)) (a.row == b.row) (a.col == b.col)
    (Decides-eqb a.row b.row) (Decides-eqb a.col b.col) (λ r c. (r, c)) (λ h. h.0) (λ h. h.1)

one_picture : (a b : Picture) → (a.rows ≡ b.rows) × (a.cols ≡ b.cols) → ((a.row ≡ b.row) × (a.col ≡ b.col)) × (a.lines ≡ b.lines) → a ≡ b
one_picture a b s h =
    let of : ℕ → ℕ → List Row → ℕ → ℕ → Picture = λ rows cols lines row col. record { rows = rows; cols = cols; lines = lines; row = row; col = col } in
    ap (λ n. of n a.cols a.lines a.row a.col) s.0
    ∙ ap (λ n. of b.rows n a.lines a.row a.col) s.1
    ∙ ap (λ xs. of b.rows b.cols xs a.row a.col) h.1
    ∙ ap (λ n. of b.rows b.cols b.lines n a.col) h.0.0
    ∙ ap (of b.rows b.cols b.lines b.row) h.0.1

-- the test of two pictures
pub picture_Decides : (a b : Picture) → Decides (same_picture a b) (a ≡ b)
picture_Decides a b =
    let cursor : Type 0 = (a.row ≡ b.row) × (a.col ≡ b.col) in
    both ((a.rows ≡ b.rows) × (a.cols ≡ b.cols)) (cursor × (a.lines ≡ b.lines)) (a ≡ b) (same_size a b) (same_cursor a b && pointwise same_row a.lines b.lines)
    (size_Decides a b)
    (both cursor (a.lines ≡ b.lines) (cursor × (a.lines ≡ b.lines)) (same_cursor a b) (pointwise same_row a.lines b.lines)
    (cursor_Decides a b) (slice_eq-Decides row_Decides a.lines b.lines (pointwise same_row a.lines b.lines) refl) (λ c l. (c, l)) (λ h. h.0) (λ h. h.1))
    (one_picture a b)
    (λ e. (ap (λ (p : Picture). p.rows) e, ap (λ (p : Picture). p.cols) e))
    (λ e. ((ap (λ (p : Picture). p.row) e, ap (λ (p : Picture). p.col) e), ap (λ (p : Picture). p.lines) e))

-- where a screen stays, nothing falls behind
pub not_behind : (n : ℕ) (p q : Picture) → p ≡ q → falls_behind n p q ≡ false
not_behind n p q e =
    let same : same_picture p q ≡ true = (picture_Decides p q).1 e in
    ap (λ b. is_past n q.rows q.cols && not b) same ∙ elim (is_past n q.rows q.cols) as (λ b. b && false ≡ false) [ true ↦ refl | false ↦ refl ]
