-- Rows in sets, and rows that are the same apart from those of a set.
use Rattle.std.proofs.Common.{◌≡◌, ℕ, zero, suc, ◌+◌, ◌<◌, ◌≤◌, Bool, true, false, inl, inr, List, [], ◌∷◌, length, take, drop, set, replicate, refl, sym, ap, ◌∙◌, arith}
use Rattle.std.specs.Prelude.{Option, slice_get, unwrap_or}
use Rattle.std.proofs.lemmas.Bool.{cases_Bool, cases_lt, cases_eq}
use Rattle.std.proofs.lemmas.List.{same_lists}
use Rattle.std.proofs.lemmas.Option.{unwrap_or-slice_get}
use Rattle.mgs_model.specs.Rows.{Row}
use Rattle.mgs_grid.specs.Cells.{rows_put}
use Rattle.mgs_grid.proofs.Panes.{above_put, below_put}
use Rattle.mgs_grid.specs.RowSets.{has_row, AreIn, AreSameApart, IsNone}

-- ROWS OF A SET

pub has_none : (n i : ℕ) → has_row i (replicate n false) ≡ false
has_none zero i = refl
has_none (suc n) zero = refl
has_none (suc n) (suc i) = has_none n i

pub has_all : (n i : ℕ) → i < n → has_row i (replicate n true) ≡ true
has_all zero i within = absurd (omega arith)
has_all (suc n) zero within = refl
has_all (suc n) (suc i) within = has_all n i (omega arith)

pub has_set_same : (row : ℕ) (rows : List Bool) → row < length rows → has_row row (set rows row true) ≡ true
has_set_same row [] within = absurd (omega arith)
has_set_same zero (b ∷ rows) within = refl
has_set_same (suc row) (b ∷ rows) within = has_set_same row rows (omega arith)

pub has_set_other : (i row : ℕ) (rows : List Bool) (b : Bool) → (i ≡ row → ⊥) → has_row i (set rows row b) ≡ has_row i rows
has_set_other i row [] b other = refl
has_set_other zero zero (x ∷ rows) b other = absurd (other refl)
has_set_other zero (suc row) (x ∷ rows) b other = refl
has_set_other (suc i) zero (x ∷ rows) b other = refl
has_set_other (suc i) (suc row) (x ∷ rows) b other = has_set_other i row rows b (λ e. other (omega arith))

-- a row that a set has lies in it
pub has_within : (i : ℕ) (rows : List Bool) → has_row i rows ≡ true → i < length rows
has_within i [] has = absurd (cc)
has_within zero (b ∷ rows) has = omega arith
has_within (suc i) (b ∷ rows) has = let later = has_within i rows has in omega (arith, later)

pub has_kept : (i row : ℕ) (rows : List Bool) → has_row i rows ≡ true → has_row i (set rows row true) ≡ true
has_kept i row rows has = elim (cases_eq i row) [
  | inl e ↦ ap (λ k. has_row k (set rows row true)) e ∙ has_set_same row rows (omega (arith, has_within i rows has, e))
  | inr other ↦ has_set_other i row rows true other ∙ has
]

-- SETS IN SETS

pub in_refl : (rows : List Bool) → AreIn rows rows
in_refl rows = record { each = λ i has. has }

pub in_then : (r s t : List Bool) → AreIn r s → AreIn s t → AreIn r t
in_then r s t first second = record { each = λ i has. second.each i (first.each i has) }

-- THE SAME APART

pub same_refl : (rows : List Bool) (xs : List Row) → AreSameApart rows xs xs
same_refl rows xs = record { each = λ i out. refl }

-- in a set that has none, no row may differ
pub none_apart : (rows : List Bool) (olds news : List Row) → IsNone rows → AreSameApart rows olds news → length olds ≡ length news → olds ≡ news
none_apart rows olds news none same size =
    same_lists olds news size (λ k d within. sym (unwrap_or-slice_get olds k d) ∙ ap (λ (o : Option Row). unwrap_or o d) (sym (same.each k (none.each k))) ∙ unwrap_or-slice_get news k d)

-- more rows may differ
pub same_more : (s t : List Bool) (olds news : List Row) → AreIn s t → AreSameApart s olds news → AreSameApart t olds news
same_more s t olds news inside same = record {
  each = λ i out. elim (cases_Bool (has_row i s)) [
    | inl has ↦ let both : has_row i t ≡ true = inside.each i has in absurd (cc)
    | inr none ↦ same.each i none
  ];
}

-- one change after another
pub same_then : (s t : List Bool) (xs ys zs : List Row) → AreSameApart s xs ys → AreSameApart t ys zs → AreIn s t → AreSameApart t xs zs
same_then s t xs ys zs first second inside =
    let before : AreSameApart t xs ys = same_more s t xs ys inside first in
    record { each = λ i out. second.each i out ∙ before.each i out }

-- ROWS THAT ARE PUT

get_take : (n i : ℕ) (xs : List Row) → i < n → slice_get (take n xs) i ≡ slice_get xs i
get_take zero i xs within = absurd (omega arith)
get_take (suc n) i [] within = refl
get_take (suc n) zero (x ∷ xs) within = refl
get_take (suc n) (suc i) (x ∷ xs) within = get_take n i xs (omega arith)

get_drop : (n i k : ℕ) (xs : List Row) → i ≡ n + k → slice_get (drop n xs) k ≡ slice_get xs i
get_drop zero i k xs at = ap (slice_get xs) (omega arith)
get_drop (suc n) i k [] at = refl
get_drop (suc n) zero k (x ∷ xs) at = absurd (omega arith)
get_drop (suc n) (suc i) k (x ∷ xs) at = get_drop n i k xs (omega arith)

-- a row above those that are put
get_above : (i first : ℕ) (new old : List Row) → i < first → first ≤ length old → slice_get (rows_put first new old) i ≡ slice_get old i
get_above i first new old above within =
    sym (get_take (i + 1) i (rows_put first new old) (omega arith))
    ∙ ap (λ (rs : List Row). slice_get rs i) (above_put (i + 1) first new old (omega arith) within)
    ∙ get_take (i + 1) i old (omega arith)

-- and below them
get_below : (i first : ℕ) (new old : List Row) → first + length new ≤ i → first ≤ length old → slice_get (rows_put first new old) i ≡ slice_get old i
get_below i first new old below within =
    sym (get_drop i i 0 (rows_put first new old) (omega arith))
    ∙ ap (λ (rs : List Row). slice_get rs 0) (below_put i first new old below within)
    ∙ get_drop i i 0 old (omega arith)

-- only the rows that are put differ
pub put_apart : (rows : List Bool) (first count : ℕ) (new old : List Row) → length new ≡ count → ((i : ℕ) → first ≤ i → i < first + count → has_row i rows ≡ true) → first + count ≤ length old → AreSameApart rows old (rows_put first new old)
put_apart rows first count new old size put within = record {
  each = λ i out. elim (cases_lt i first) [
    | inl above ↦ get_above i first new old above (omega arith)
    | inr from ↦ elim (cases_lt i (first + count)) [
      | inl inside ↦ let has : has_row i rows ≡ true = put i from inside in absurd (cc)
      | inr below ↦ get_below i first new old (omega arith) (omega arith)
    ]
  ];
}

-- rows that are put after other changes
pub then_put : (s t : List Bool) (first count : ℕ) (new xs ys zs : List Row) → AreSameApart s xs ys → AreIn s t → zs ≡ rows_put first new ys → length new ≡ count → ((i : ℕ) → first ≤ i → i < first + count → has_row i t ≡ true) → first + count ≤ length ys → AreSameApart t xs zs
then_put s t first count new xs ys zs before inside is size put within =
    rw is (same_then s t xs ys (rows_put first new ys) before (put_apart t first count new ys size put within) inside)
