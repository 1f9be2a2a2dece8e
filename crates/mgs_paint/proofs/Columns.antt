-- The columns at which texts of one length differ.
use Rattle.std.proofs.Common.{◌≡◌, ℕ, zero, suc, ◌+◌, ◌-◌, ◌<◌, ◌≤◌, Bool, false, inl, inr, List, [], ◌∷◌, map, length, take, drop, replicate, get_or, refl, sym, ap, ◌∙◌, arith}
use Rattle.std.specs.Prelude.{nat_eq, ◌&&◌}
use Rattle.std.proofs.lemmas.Bool.{cases_lt, eq-eqb, ne_eqb, cases_Bool, eqb-true, eqb-false, and_parts, and_right}
use Rattle.std.proofs.Math.Dec.{eqb-suc-zero}
use Rattle.std.proofs.lemmas.List.{length-replicate, drop-replicate, get_or-replicate, get_or-drop, get_or_read, take_all, drop_more, drop_all, drop-drop, length-map, take-map, drop-map}
use Rattle.std.specs.Bool.{beq}
use Rattle.std.specs.Cmp.{booleans_Decides}
use Rattle.mgs_model.specs.Cells.{AreCells, starts_half}
use Rattle.mgs_paint.proofs.WholeCells.{whole_starts, start_whole, start_whole_old, end_whole, end_cases, end_within, end_zero, end_none as end_none_whole}
use Rattle.mgs_model.specs.Rows.{Row}
use Rattle.mgs_paint.specs.Painting.{cell_of, row_cells}
use Rattle.mgs_paint.specs.Changes.{change_start, change_end, whole_end, ink_end, start_column, end_column}

-- WHERE A WALK STOPS

pub change_start-same : (xs : List ℕ) → change_start xs xs ≡ length xs
change_start-same [] = refl
change_start-same (x ∷ xs) = rw (eq-eqb x x refl) (ap suc (change_start-same xs))

pub change_start-at : (xs ys : List ℕ) (i d : ℕ) → i < length xs → i < length ys → take i xs ≡ take i ys → (get_or xs i d ≡ get_or ys i d → ⊥) → change_start xs ys ≡ i
change_start-at [] ys i d l m same other = absurd (omega arith)
change_start-at (x ∷ xs) [] i d l m same other = absurd (omega arith)
change_start-at (x ∷ xs) (y ∷ ys) zero d l m same other = rw (ne_eqb x y other) refl
change_start-at (x ∷ xs) (y ∷ ys) (suc i) d l m same other =
    let head : x ≡ y = cc in
    let rest : take i xs ≡ take i ys = cc in
    rw (eq-eqb x y head) (ap suc (change_start-at xs ys i d (omega arith) (omega arith) rest other))

pub change_end-same : (xs : List ℕ) → change_end xs xs ≡ 0
change_end-same [] = refl
change_end-same (x ∷ xs) = rw (change_end-same xs, eq-eqb x x refl) refl

pub change_end-at : (xs ys : List ℕ) (e d : ℕ) → length xs ≡ length ys → e < length xs → drop (suc e) xs ≡ drop (suc e) ys → (get_or xs e d ≡ get_or ys e d → ⊥) → change_end xs ys ≡ suc e
change_end-at [] ys e d n l same other = absurd (omega arith)
change_end-at (x ∷ xs) [] e d n l same other = absurd (omega arith)
change_end-at (x ∷ xs) (y ∷ ys) zero d n l same other = rw (same, change_end-same ys, ne_eqb x y other) refl
change_end-at (x ∷ xs) (y ∷ ys) (suc e) d n l same other =
    rw (change_end-at xs ys e d (omega arith) (omega arith) same other, eqb-suc-zero e) refl

-- WHAT STAYS

pub start_stays : (xs ys : List ℕ) → take (change_start xs ys) xs ≡ take (change_start xs ys) ys
start_stays [] [] = refl
start_stays [] (y ∷ ys) = refl
start_stays (x ∷ xs) [] = refl
start_stays (x ∷ xs) (y ∷ ys) = elim (cases_Bool (nat_eq x y)) [
  | inl e ↦ rw (e, eqb-true x y e) (ap (λ zs. y ∷ zs) (start_stays xs ys))
  | inr e ↦ rw e refl
]

pub end_stays : (xs ys : List ℕ) → length xs ≡ length ys → (drop (change_end xs ys) xs ≡ drop (change_end xs ys) ys) × (change_end xs ys ≤ length ys)
end_stays [] [] n = (refl, omega arith)
end_stays [] (y ∷ ys) n = absurd (omega arith)
end_stays (x ∷ xs) [] n = absurd (omega arith)
end_stays (x ∷ xs) (y ∷ ys) n =
    let rest = end_stays xs ys (omega arith) in
    elim (cases_Bool (nat_eq (change_end xs ys) 0 && nat_eq x y)) [
      | inl e ↦
          let parts = and_parts (nat_eq (change_end xs ys) 0) (nat_eq x y) e in
          let none : change_end xs ys ≡ 0 = eqb-true (change_end xs ys) 0 parts.0 in
          let same : xs ≡ ys = rw none at rest.0 in
          rw e (rw (same, eqb-true x y parts.1) refl, omega arith)
      | inr e ↦ rw e (rest.0, omega (arith, rest.1))
    ]

pub start_before_end : (xs ys : List ℕ) → (change_end xs ys ≡ 0 → ⊥) → change_start xs ys < change_end xs ys
start_before_end [] ys some = absurd (some refl)
start_before_end (x ∷ xs) [] some = absurd (some refl)
start_before_end (x ∷ xs) (y ∷ ys) some = elim (cases_Bool (nat_eq x y)) [
  | inl e ↦ elim (cases_Bool (nat_eq (change_end xs ys) 0)) [
    | inl f ↦ absurd (some (rw (e, f) refl))
    | inr f ↦ let rest = start_before_end xs ys (eqb-false (change_end xs ys) 0 f) in rw (e, f) (omega (arith, rest))
  ]
  | inr e ↦ rw (e, and_right (nat_eq (change_end xs ys) 0) false refl) (omega arith)
]

pub ink_stays : (ys : List ℕ) → (drop (ink_end ys) ys ≡ replicate (length ys - ink_end ys) 32) × (ink_end ys ≤ length ys)
ink_stays ys =
    let both = end_stays (replicate (length ys) 32) ys (length-replicate (length ys) 32) in
    (sym both.0 ∙ drop-replicate (ink_end ys) (length ys) 32, both.1)

-- the end of a change is behind it, with a right half or without
end_past : (text : List ℕ) (n e : ℕ) → n < e → n < whole_end text e
end_past text n e l = elim (end_cases text e) [ inl p ↦ rw p.0 (omega arith) | inr p ↦ rw p.0 l ]

-- the first column that changes comes before the end of those
pub start_first : (old new : Row) → 0 < end_column old new → start_column old new < end_column old new
start_first old new some = elim (cases_Bool (beq old.reversed new.reversed)) [
  | inl e ↦
      let more : 0 < whole_end new.text (change_end old.text new.text) = rw e at some in
      let other : change_end old.text new.text ≡ 0 → ⊥ = λ none. omega (arith, more, ap (whole_end new.text) none, end_zero new.text) in
      rw e (end_past new.text (change_start old.text new.text) (change_end old.text new.text) (start_before_end old.text new.text other))
  | inr e ↦ let more : 0 < length new.text = rw e at some in rw e more
]

-- WHAT A WALK READS

other_read : (xs ys : List ℕ) (i x y d : ℕ) → i < length xs → i < length ys → x ≡ get_or xs i x → y ≡ get_or ys i y → (x ≡ y → ⊥) → get_or xs i d ≡ get_or ys i d → ⊥
other_read xs ys i x y d l m p q other same = other (get_or_read xs i x l p d ∙ same ∙ sym (get_or_read ys i y m q d))

-- from the left, up to two characters that differ
pub start_found : (xs ys : List ℕ) (i x y : ℕ) → length xs ≡ length ys → i < length ys → take i xs ≡ take i ys → x ≡ get_or xs i x → y ≡ get_or ys i y → (x ≡ y → ⊥) → i ≡ change_start xs ys
start_found xs ys i x y n l same p q other =
    sym (change_start-at xs ys i 0 (omega arith) l same (other_read xs ys i x y 0 (omega arith) l p q other))

pub start_none : (xs ys : List ℕ) (i : ℕ) → length xs ≡ length ys → i ≤ length ys → length ys ≤ i → take i xs ≡ take i ys → i ≡ change_start xs ys
start_none xs ys i n within l same =
    let all : xs ≡ ys = sym (take_all i xs (omega arith)) ∙ same ∙ take_all i ys l in
    let end : i ≡ length ys = omega arith in
    end ∙ rw all (sym (change_start-same ys))

-- from the right, down to two characters that differ
pub end_found : (xs ys : List ℕ) (e x y : ℕ) → length xs ≡ length ys → 0 < e → e ≤ length ys → drop e xs ≡ drop e ys → x ≡ get_or xs (e - 1) x → y ≡ get_or ys (e - 1) y → (x ≡ y → ⊥) → e ≡ change_end xs ys
end_found xs ys e x y n some l same p q other =
    let next : suc (e - 1) ≡ e = omega arith in
    sym (change_end-at xs ys (e - 1) 0 n (omega arith) (rw next same) (other_read xs ys (e - 1) x y 0 (omega arith) (omega arith) p q other) ∙ next)

pub end_none : (xs ys : List ℕ) (e : ℕ) → e ≤ 0 → drop e xs ≡ drop e ys → e ≡ change_end xs ys
end_none xs ys e l same =
    let none : e ≡ 0 = omega arith in
    let all : xs ≡ ys = rw none at same in
    rw (none, all) (sym (change_end-same ys))

-- one more blank
pub blank_more : (xs : List ℕ) (e x : ℕ) → 0 < e → e ≤ length xs → drop e xs ≡ drop e (replicate (length xs) 32) → x ≡ get_or xs (e - 1) x → x ≡ 32 → drop (e - 1) xs ≡ drop (e - 1) (replicate (length xs) 32)
blank_more xs e x some l same p is =
    let next : e - 1 + 1 ≡ e = omega arith in
    let n : length (replicate {A = ℕ} (length xs) 32) ≡ length xs = length-replicate (length xs) 32 in
    drop_more xs (e - 1) 32 (omega arith)
    ∙ ap (λ c. c ∷ drop (e - 1 + 1) xs) (sym (get_or_read xs (e - 1) x (omega arith) p 32) ∙ is ∙ sym (get_or-replicate (length xs) (e - 1) 32 32 (omega arith)))
    ∙ ap (λ zs. get_or (replicate (length xs) 32) (e - 1) 32 ∷ zs) (rw next same)
    ∙ sym (drop_more (replicate (length xs) 32) (e - 1) 32 (omega (arith, n)))

pub ink_found : (xs : List ℕ) (e x : ℕ) → 0 < e → e ≤ length xs → drop e xs ≡ drop e (replicate (length xs) 32) → x ≡ get_or xs (e - 1) x → (x ≡ 32 → ⊥) → e ≡ ink_end xs
ink_found xs e x some l same p other =
    let n : length (replicate {A = ℕ} (length xs) 32) ≡ length xs = length-replicate (length xs) 32 in
    end_found (replicate (length xs) 32) xs e 32 x n some l (sym same) (sym (get_or-replicate (length xs) (e - 1) 32 32 (omega arith))) p (λ is. other (sym is))

pub ink_none : (xs : List ℕ) (e : ℕ) → e ≤ 0 → drop e xs ≡ drop e (replicate (length xs) 32) → e ≡ ink_end xs
ink_none xs e l same = end_none (replicate (length xs) 32) xs e l (sym same)

-- ROWS

-- where no column changes, the row is the same
pub same_row : (old new : Row) → length old.text ≡ length new.text → 0 < length new.text → end_column old new ≡ 0 → old ≡ new
same_row old new n some none = elim (cases_Bool (beq old.reversed new.reversed)) [
  | inl e ↦
      let marks : old.reversed ≡ new.reversed = (booleans_Decides old.reversed new.reversed).0 e in
      let wide : whole_end new.text (change_end old.text new.text) ≡ 0 = rw e at none in
      let last : change_end old.text new.text ≡ 0 = end_none_whole new.text (change_end old.text new.text) wide in
      let texts : old.text ≡ new.text = rw last at (end_stays old.text new.text n).0 in
      let row : List ℕ → Bool → Row = λ t r. record { text = t; reversed = r } in
      ap (λ t. row t old.reversed) texts ∙ ap (λ r. row new.text r) marks
  | inr e ↦ let all : length new.text ≡ 0 = rw e at none in absurd (omega (arith, all, some))
]

pub same_columns : (old new : Row) → old ≡ new → end_column old new ≡ 0
same_columns old new same = rw (same, (booleans_Decides new.reversed new.reversed).1 refl) (ap (whole_end new.text) (change_end-same new.text) ∙ end_zero new.text)

pub no_columns : (old new : Row) → old ≡ new → 0 ≡ end_column old new
no_columns old new same = sym (same_columns old new same)

drop_later : {A : Type 0} (n m : ℕ) (xs ys : List A) → n ≤ m → drop n xs ≡ drop n ys → drop m xs ≡ drop m ys
drop_later n m xs ys l e =
    let sum : n + (m - n) ≡ m = omega arith in
    ap (λ k. drop k xs) (sym sum) ∙ sym (drop-drop (m - n) n xs) ∙ ap (drop (m - n)) e ∙ drop-drop (m - n) n ys ∙ ap (λ k. drop k ys) sum

-- what stays of the cells of a row
pub cells_stay : (old new : Row) → length old.text ≡ length new.text → (take (start_column old new) (row_cells old) ≡ take (start_column old new) (row_cells new)) × (drop (end_column old new) (row_cells old) ≡ drop (end_column old new) (row_cells new)) × (end_column old new ≤ length new.text)
cells_stay old new n = elim (cases_Bool (beq old.reversed new.reversed)) [
  | inl e ↦
      let marks : old.reversed ≡ new.reversed = (booleans_Decides old.reversed new.reversed).0 e in
      let start : ℕ = change_start old.text new.text in
      let end : ℕ = change_end old.text new.text in
      let last : ℕ = whole_end new.text end in
      let back = end_stays old.text new.text n in
      let within = end_within new.text end back.1 in
      let heads : take start (map (cell_of new.reversed) old.text) ≡ take start (row_cells new) =
      take-map (cell_of new.reversed) start old.text ∙ ap (map (cell_of new.reversed)) (start_stays old.text new.text) ∙ sym (take-map (cell_of new.reversed) start new.text) in
      let texts : drop last old.text ≡ drop last new.text = drop_later end last old.text new.text within.0 back.0 in
      let tails : drop last (map (cell_of new.reversed) old.text) ≡ drop last (row_cells new) =
      drop-map (cell_of new.reversed) last old.text ∙ ap (map (cell_of new.reversed)) texts ∙ sym (drop-map (cell_of new.reversed) last new.text) in
      rw e (rw marks heads, rw marks tails, within.1)
  | inr e ↦
      rw e (
        refl,
        drop_all (length new.text) (row_cells old) (omega (arith, length-map old.text (cell_of old.reversed))) ∙ sym (drop_all (length new.text) (row_cells new) (omega (arith, length-map new.text (cell_of new.reversed)))),
        omega arith,
      )
]

-- WHERE ROWS ARE PARTED

blank_apart : (n : ℕ) → starts_half (replicate n 32) ≡ false
blank_apart zero = refl
blank_apart (suc n) = refl

-- no right half stands where a change begins, in the new row and in the old one
pub start_apart : (old new : Row) → AreCells false old.text → AreCells false new.text → length old.text ≡ length new.text
    → (starts_half (drop (start_column old new) new.text) ≡ false) × (starts_half (drop (start_column old new) old.text) ≡ false)
start_apart old new was is n = elim (cases_Bool (beq old.reversed new.reversed)) [
  | inl e ↦ rw e (start_whole false old.text new.text was is n, start_whole_old false old.text new.text was is n)
  | inr e ↦ rw e (whole_starts new.text is, whole_starts old.text was)
]

pub start_apart_new : (old new : Row) → AreCells false old.text → AreCells false new.text → length old.text ≡ length new.text → starts_half (drop (start_column old new) new.text) ≡ false
start_apart_new old new was is n = (start_apart old new was is n).0

-- and none where it ends
pub end_apart : (old new : Row) → AreCells false new.text → starts_half (drop (end_column old new) new.text) ≡ false
end_apart old new is = elim (cases_Bool (beq old.reversed new.reversed)) [
  | inl e ↦ rw e (end_whole new.text (change_end old.text new.text) is)
  | inr e ↦ rw e (ap starts_half (drop_all (length new.text) new.text (omega arith)))
]

-- blanks behind the ink are no halves
pub ink_apart : (text : List ℕ) (k : ℕ) → ink_end text ≤ k → starts_half (drop k text) ≡ false
ink_apart text k l =
    let n : ℕ = length text in
    let blank : drop k text ≡ replicate (n - k) 32 = sym (drop_later (ink_end text) k (replicate n 32) text l (end_stays (replicate n 32) text (length-replicate n 32)).0) ∙ drop-replicate k n 32 in
    ap starts_half blank ∙ blank_apart (n - k)

first_left : (xs : List ℕ) (k : ℕ) → get_or xs k 0 ≡ get_or (drop k xs) 0 0
first_left xs k = let none : k + 0 ≡ k = omega arith in sym (get_or-drop k xs 0 0 ∙ ap (λ j. get_or xs j 0) none)

-- ink before a place is no later than where it ends
pub ink_past : (xs : List ℕ) (e x : ℕ) → 0 < e → e ≤ length xs → x ≡ get_or xs (e - 1) x → (x ≡ 32 → ⊥) → e ≤ ink_end xs
ink_past xs e x some l p other = elim (cases_lt (ink_end xs) e) [
  | inl before ↦
      let blanks : List ℕ = replicate (length xs) 32 in
      let n : length blanks ≡ length xs = length-replicate (length xs) 32 in
      let rest : drop (e - 1) blanks ≡ drop (e - 1) xs = drop_later (ink_end xs) (e - 1) blanks xs (omega arith) (end_stays blanks xs n).0 in
      let same : get_or blanks (e - 1) 0 ≡ get_or xs (e - 1) 0 = first_left blanks (e - 1) ∙ ap (λ zs. get_or zs 0 0) rest ∙ sym (first_left xs (e - 1)) in
      absurd (other (get_or_read xs (e - 1) x (omega arith) p 0 ∙ sym same ∙ get_or-replicate (length xs) (e - 1) 32 0 (omega arith)))
  | inr past ↦ past
]
