-- What is written of a line is what the row shows of it.
use Rattle.std.proofs.Common.{◌≡◌, ℕ, zero, suc, ◌+◌, ◌-◌, ◌<◌, ◌≤◌, List, [], ◌∷◌, ◌++◌, length, take, drop, get_or, set, refl, sym, ap, ◌∙◌, arith, replicate, ◌⊎◌, inl, inr, append_assoc, length-append, length-take, length-drop}
use Rattle.std.proofs.lemmas.List.{length-replicate, get_or-replicate, same_lists, get_or-append_right, get_or_append_left, get_or-take, get_or-drop, get_or_at, set_at, take_more, drop_more, length-take-le, drop_all}
use Rattle.std.specs.Prelude.{true, false, nat_eq, nat_lt, ◌==◌, if◌then◌else◌}
use Rattle.std.proofs.lemmas.Bool.{cases_Bool, cases_lt, lt-ltb, le-ltb, lt-leb, le-leb, ne_eqb}
use Rattle.std.proofs.lemmas.Bool.Decides.{nat_tests}
use Rattle.mgs_grid.specs.Cells.{over, first_signed, last_signed, finished, Wrote}
use Rattle.mgs_model.specs.Cells.{right_half, starts_half, unhalved, cells_before, cells_after}
use Rattle.mgs_model.specs.Rows.{Row, fitted, shown_row, plain_row}
use Rattle.mgs_grid.proofs.CellLemmas.{length-over, over_here, over_behind}

short_at : (f cols s : ℕ) (xs : List ℕ) (k d : ℕ) → k < cols → get_or (over (replicate cols f) s 0 xs) k d ≡ get_or (drop s xs ++ replicate (cols - length (drop s xs)) f) k d
short_at f cols s xs k d sight =
    let len : length (drop s xs) ≡ length xs - s = length-drop s xs in
    let room : length (replicate {A = ℕ} cols f) ≡ cols = length-replicate {A = ℕ} cols f in
    elim (cases_lt k (length (drop s xs))) [
      | inl within ↦
          over_here (replicate cols f) s 0 xs (s + k) k d (omega arith) (omega arith) (omega arith)
          ∙ sym (get_or_append_left (drop s xs) (replicate (cols - length (drop s xs)) f) d k within ∙ get_or-drop s xs k d)
      | inr past ↦
          over_behind (replicate cols f) s 0 xs k d (omega arith)
          ∙ get_or-replicate cols k f d sight
          ∙ sym (get_or-append_right (drop s xs) (replicate (cols - length (drop s xs)) f) (length (drop s xs)) k d refl past ∙ get_or-replicate (cols - length (drop s xs)) (k - length (drop s xs)) f d (omega arith))
    ]

-- the blanks with the cells from column s on written over them
pub over_short : (f cols s : ℕ) (xs : List ℕ) → length xs ≤ s + cols → over (replicate cols f) s 0 xs ≡ drop s xs ++ replicate (cols - length (drop s xs)) f
over_short f cols s xs short =
    let left : length (over (replicate cols f) s 0 xs) ≡ cols = length-over (replicate cols f) s 0 xs ∙ length-replicate {A = ℕ} cols f in
    let right : length (drop s xs ++ replicate (cols - length (drop s xs)) f) ≡ cols = omega (arith, length-append (drop s xs) (replicate (cols - length (drop s xs)) f), length-replicate {A = ℕ} (cols - length (drop s xs)) f, length-drop s xs) in
    same_lists _ _ (left ∙ sym right) (λ k d h. short_at f cols s xs k d (omega (arith, left, h)))

pub over_long : (f cols s : ℕ) (xs : List ℕ) → s + cols ≤ length xs → over (replicate cols f) s 0 xs ≡ take cols (drop s xs)
over_long f cols s xs long =
    let left : length (over (replicate cols f) s 0 xs) ≡ cols = length-over (replicate cols f) s 0 xs ∙ length-replicate {A = ℕ} cols f in
    let right : length (take cols (drop s xs)) ≡ cols = omega (arith, length-take cols (drop s xs), length-drop s xs) in
    let room : length (replicate {A = ℕ} cols f) ≡ cols = length-replicate {A = ℕ} cols f in
    same_lists _ _ (left ∙ sym right) (λ k d h.
    let sight : k < cols = omega (arith, left, h) in
    over_here (replicate cols f) s 0 xs (s + k) k d (omega arith) (omega arith) (omega arith)
    ∙ sym (get_or-take cols (drop s xs) k d sight ∙ get_or-drop s xs k d))

pub fits_short : (f cols s : ℕ) (xs : List ℕ) → length xs ≤ s + cols → over (replicate cols f) s 0 xs ≡ fitted f cols (drop s xs)
unfolding fitted
fits_short f cols s xs short =
    let len : length (drop s xs) ≤ cols = omega (arith, length-drop s xs) in
    over_short f cols s xs short ∙ grind (arith, nat_tests, len)

-- a `$` in the last cell of a row that is cut
two_more : (n : ℕ) → n + 2 ≡ n + 1 + 1
two_more n = omega arith

split_two : (n : ℕ) (ys : List ℕ) → n + 1 < length ys → take (n + 2) ys ≡ take n ys ++ get_or ys n 32 ∷ get_or ys (n + 1) 32 ∷ []
split_two n ys l =
    ap (λ k. take k ys) (two_more n) ∙ take_more ys (n + 1) 32 l ∙ ap (λ xs. xs ++ get_or ys (n + 1) 32 ∷ []) (take_more ys n 32 (omega arith)) ∙ append_assoc (take n ys) (get_or ys n 32 ∷ []) (get_or ys (n + 1) 32 ∷ [])

head_half : (ys : List ℕ) (k : ℕ) → nat_eq (get_or ys k 32) right_half ≡ starts_half (drop k ys)
head_half [] zero = refl
head_half [] (suc k) = refl
head_half (y ∷ ys) zero = refl
head_half (y ∷ ys) (suc k) = head_half ys k

sign_two : (p : List ℕ) (a b : ℕ) → last_signed (p ++ a ∷ b ∷ []) ≡ (if nat_eq b right_half then p ++ 32 ∷ 36 ∷ [] else p ++ a ∷ 36 ∷ [])
sign_two p a b =
    let size : length (p ++ a ∷ b ∷ []) ≡ length p + 2 = length-append p (a ∷ b ∷ []) in
    let last : length (p ++ a ∷ b ∷ []) - 1 ≡ length p + 1 = omega (arith, size) in
    let before : length p + 1 - 1 ≡ length p = omega arith in
    let pair : (x : ℕ) → p ++ x ∷ b ∷ [] ≡ (p ++ x ∷ []) ++ b ∷ [] = λ x. sym (append_assoc p (x ∷ []) (b ∷ [])) in
    let long : (x : ℕ) → length (p ++ x ∷ []) ≡ length p + 1 = λ x. length-append p (x ∷ []) in
    let read : get_or (p ++ a ∷ b ∷ []) (length p + 1) 32 ≡ b = ap (λ xs. get_or xs (length p + 1) 32) (pair a) ∙ get_or_at (p ++ a ∷ []) b [] 32 (length p + 1) (long a) in
    let blank : set (p ++ a ∷ b ∷ []) (length p) 32 ≡ p ++ 32 ∷ b ∷ [] = set_at p a (b ∷ []) 32 (length p) refl in
    let end : (x : ℕ) → set (p ++ x ∷ b ∷ []) (length p + 1) 36 ≡ p ++ x ∷ 36 ∷ [] = λ x. ap (λ xs. set xs (length p + 1) 36) (pair x) ∙ set_at (p ++ x ∷ []) b [] 36 (length p + 1) (long x) ∙ append_assoc p (x ∷ []) (36 ∷ []) in
    elim (cases_Bool (nat_eq b right_half)) [
      | inl e ↦ rw (last, read, e, before, blank) (end 32)
      | inr e ↦ rw (last, read, e) (end a)
    ]

last_long : (cols : ℕ) (ys : List ℕ) → 2 ≤ cols → cols < length ys → last_signed (take cols ys) ≡ cells_before (cols - 1) ys ++ 36 ∷ []
last_long cols ys some long =
    let n : ℕ = cols - 2 in
    let whole : n + 2 ≡ cols = omega arith in
    let next : cols - 1 ≡ n + 1 = omega arith in
    let less : n + 1 - 1 ≡ n = omega arith in
    let a : ℕ = get_or ys n 32 in
    let b : ℕ = get_or ys (n + 1) 32 in
    let cut : take cols ys ≡ take n ys ++ a ∷ b ∷ [] = ap (λ k. take k ys) (sym whole) ∙ split_two n ys (omega arith) in
    let front : take (n + 1) ys ≡ take n ys ++ a ∷ [] = take_more ys n 32 (omega arith) in
    ap last_signed cut ∙ sign_two (take n ys) a b ∙ elim (cases_Bool (nat_eq b right_half)) [
      | inl e ↦ rw (next, ← head_half ys (n + 1), e, less) (sym (append_assoc (take n ys) (32 ∷ []) (36 ∷ [])))
      | inr e ↦ rw (next, ← head_half ys (n + 1), e, front) (sym (append_assoc (take n ys) (a ∷ []) (36 ∷ [])))
    ]

pub fits_long : (f cols s : ℕ) (xs : List ℕ) → 2 ≤ cols → s + cols < length xs → last_signed (over (replicate cols f) s 0 xs) ≡ fitted f cols (drop s xs)
unfolding fitted
fits_long f cols s xs some long =
    let ys : List ℕ = drop s xs in
    let len : cols < length ys = omega (arith, length-drop s xs) in
    rw (over_long f cols s xs (omega arith)) (last_long cols ys some len ∙ grind (arith, nat_tests, len))

-- a row of nothing
pub fitted_none : (f cols : ℕ) → fitted f cols [] ≡ replicate cols f
unfolding fitted
fitted_none f cols = grind (arith, nat_tests)

pub blank_row : (cols : ℕ) → plain_row cols [] ≡ record { text = replicate cols 32; reversed = false }
blank_row cols = ap (λ (t : List ℕ). let r : Row = record { text = t; reversed = false } in r) (fitted_none 32 cols)

pub blank_cells : (n : ℕ) (xs : List ℕ) → xs ≡ replicate n 32 → (let r : Row = record { text = xs; reversed = false } in r) ≡ plain_row (length xs) []
blank_cells n xs is =
    let size : n ≡ length xs = sym (length-replicate {A = ℕ} n 32) ∙ ap length (sym is) in
    ap (λ (t : List ℕ). let r : Row = record { text = t; reversed = false } in r) is ∙ sym (blank_row n) ∙ ap (λ k. plain_row k []) size

-- a `$` in the first cell
first_of : (x : ℕ) (zs : List ℕ) → first_signed (x ∷ zs) ≡ 36 ∷ unhalved zs
first_of x [] = refl
first_of x (z ∷ zs) = elim (cases_Bool (nat_eq z right_half)) [ inl e ↦ rw e refl | inr e ↦ rw e refl ]

-- before it the last cell was looked at, far enough away
first_before : (k x : ℕ) (zs t : List ℕ) → 3 ≤ k → k ≤ length zs → first_signed (cells_before k (x ∷ zs) ++ t) ≡ cells_before k (36 ∷ unhalved zs) ++ t
first_before zero x zs t some l = absurd (omega arith)
first_before (suc zero) x zs t some l = absurd (omega arith)
first_before (suc (suc zero)) x zs t some l = absurd (omega arith)
first_before (suc (suc (suc k))) x [] t some l = absurd (omega arith)
first_before (suc (suc (suc k))) x (y ∷ []) t some l = absurd (omega arith)
first_before (suc (suc (suc k))) x (y ∷ z ∷ zs) t some l =
    let less : suc (suc (suc k)) - 1 ≡ suc (suc k) = omega arith in
    elim (cases_Bool (starts_half (drop (suc k) (z ∷ zs)))) [
      | inl e ↦ rw (e, less) (first_of x (y ∷ (take k (z ∷ zs) ++ 32 ∷ []) ++ t))
      | inr e ↦ rw e (first_of x (y ∷ take (suc k) (z ∷ zs) ++ t))
    ]

rest_of : (s : ℕ) (xs : List ℕ) → ((drop s xs ≡ []) × (drop (s + 1) xs ≡ [])) ⊎ ((y : ℕ) × (drop s xs ≡ y ∷ drop (s + 1) xs))
rest_of s xs = elim (cases_lt s (length xs)) [
  | inl within ↦ inr (get_or xs s 0, drop_more xs s 0 within)
  | inr past ↦ inl (drop_all s xs past, drop_all (s + 1) xs (omega arith))
]

pub length-unhalved : (zs : List ℕ) → length (unhalved zs) ≡ length zs
length-unhalved [] = refl
length-unhalved (z ∷ zs) = refl

unhalved_fill : (n : ℕ) (zs : List ℕ) → unhalved (zs ++ replicate n 32) ≡ unhalved zs ++ replicate n 32
unhalved_fill zero [] = refl
unhalved_fill (suc n) [] = refl
unhalved_fill n (z ∷ zs) = refl

first_cut : (cols : ℕ) (ys zs : List ℕ) → 4 ≤ cols → ((ys ≡ []) × (zs ≡ [])) ⊎ ((y : ℕ) × (ys ≡ y ∷ zs)) → first_signed (fitted 32 cols ys) ≡ fitted 32 cols (36 ∷ unhalved zs)
unfolding fitted
first_cut cols ys zs wide h = elim h [
  | inl none ↦
      let n : ℕ = cols - 1 in
      let whole : cols ≡ suc n = omega arith in
      let one : fitted 32 cols (36 ∷ []) ≡ 36 ∷ replicate n 32 = rw (le-leb 1 cols (omega arith)) refl in
      ap (λ (k : List ℕ). first_signed (fitted 32 cols k)) none.0 ∙ ap first_signed (fitted_none 32 cols ∙ ap (λ k. replicate k 32) whole) ∙ first_of 32 (replicate n 32) ∙ ap (λ (k : List ℕ). 36 ∷ k) (unhalved_fill n []) ∙ sym one ∙ ap (λ (k : List ℕ). fitted 32 cols (36 ∷ unhalved k)) (sym none.1)
  | inr some ↦
      let size : length (36 ∷ unhalved zs) ≡ suc (length zs) = ap suc (length-unhalved zs) in
      elim (cases_lt cols (suc (length zs))) [
        | inl long ↦ rw (some.1, length-unhalved zs, lt-leb (suc (length zs)) cols long) (first_before (cols - 1) some.0 zs (36 ∷ []) (omega arith) (omega arith))
        | inr short ↦ rw (some.1, length-unhalved zs, le-leb (suc (length zs)) cols short) (first_of some.0 (zs ++ replicate (cols - suc (length zs)) 32) ∙ ap (λ (k : List ℕ). 36 ∷ k) (unhalved_fill (cols - suc (length zs)) zs))
      ]
]

pub first_fitted : (cols s : ℕ) (xs : List ℕ) → 4 ≤ cols → first_signed (fitted 32 cols (drop s xs)) ≡ fitted 32 cols (36 ∷ cells_after (s + 1) xs)
unfolding fitted
first_fitted cols s xs wide = first_cut cols (drop s xs) (drop (s + 1) xs) wide (rest_of s xs)

pub finished_fits : (f cols s n : ℕ) (xs row : List ℕ) → 2 ≤ cols → n ≡ length xs → row ≡ over (replicate cols f) s 0 xs → finished row s n ≡ (if s == 0 then fitted f cols (drop s xs) else first_signed (fitted f cols (drop s xs)))
unfolding finished
finished_fits f cols s n xs row some e is =
    let wide : length row ≡ cols = ap length is ∙ length-over (replicate cols f) s 0 xs ∙ length-replicate {A = ℕ} cols f in
    elim (cases_lt (s + cols) n) [
      | inl long ↦
          let cut : last_signed row ≡ fitted f cols (drop s xs) = ap last_signed is ∙ fits_long f cols s xs some (omega arith) in
          let test : nat_lt (s + length row) n ≡ true = lt-ltb (s + length row) n (omega (arith, wide)) in
          rw test (ap (λ r. if s == 0 then r else first_signed r) cut)
      | inr short ↦
          let whole : row ≡ fitted f cols (drop s xs) = is ∙ fits_short f cols s xs (omega arith) in
          let test : nat_lt (s + length row) n ≡ false = le-ltb (s + length row) n (omega (arith, wide)) in
          rw test (ap (λ r. if s == 0 then r else first_signed r) whole)
    ]

-- a row of a text
pub finished_shown : (cols s n : ℕ) (xs row : List ℕ) → 4 ≤ cols → n ≡ length xs → row ≡ over (replicate cols 32) s 0 xs → finished row s n ≡ shown_row cols s xs
unfolding shown_row
finished_shown cols zero n xs row some e is = finished_fits 32 cols zero n xs row (omega arith) e is
finished_shown cols (suc s) n xs row some e is = finished_fits 32 cols (suc s) n xs row (omega arith) e is ∙ rw (ne_eqb (suc s) 0 (λ e. omega arith)) (first_fitted cols (suc s) xs some)

pub drawn_shown : (cols s n : ℕ) (xs cells first row new : List ℕ) → 4 ≤ cols → length cells ≡ cols → first ≡ replicate (length cells) 32 → row ≡ over first s 0 xs → n ≡ length xs → new ≡ finished row s n → new ≡ shown_row cols s xs
drawn_shown cols s n xs cells first row new some wide is put next end =
    end ∙ finished_shown cols s n xs row some next (put ∙ ap (λ (k : List ℕ). over k s 0 xs) (is ∙ ap (λ (k : ℕ). replicate k 32) wide))

-- a row of its own
pub finished_row : (f cols n : ℕ) (xs row : List ℕ) → 2 ≤ cols → n ≡ length xs → row ≡ over (replicate cols f) 0 0 xs → finished row 0 n ≡ fitted f cols xs
finished_row f cols n xs row some e is = finished_fits f cols 0 n xs row some e is

pub finished_wrote : (f cols n : ℕ) (xs first row : List ℕ) → 2 ≤ cols → first ≡ replicate cols f → Wrote first 0 xs row n → finished row 0 n ≡ fitted f cols xs
finished_wrote f cols n xs first row some is w = finished_row f cols n xs row some (omega (arith, w.next_is)) (rw (← is) w.row_is)

-- the cells of a row, drawn whole
pub drawn_whole : (f cols n : ℕ) (xs cells first row new : List ℕ) → 2 ≤ cols → length cells ≡ cols → first ≡ replicate (length cells) f → Wrote first 0 xs row n → new ≡ finished row 0 n → new ≡ fitted f cols xs
drawn_whole f cols n xs cells first row new some wide is w end = end ∙ finished_wrote f cols n xs first row some (is ∙ ap (λ (k : ℕ). replicate k f) wide) w

-- how long they are
length-before : (k : ℕ) (xs : List ℕ) → 1 ≤ k → k ≤ length xs → length (cells_before k xs) ≡ k
length-before k xs some within = elim (cases_Bool (starts_half (drop k xs))) [
  | inl e ↦ rw e (omega (arith, length-append (take (k - 1) xs) (32 ∷ []), length-take-le (k - 1) xs (omega arith)))
  | inr e ↦ rw e (length-take-le k xs within)
]

pub length-fitted : (f cols : ℕ) (xs : List ℕ) → 2 ≤ cols → length (fitted f cols xs) ≡ cols
unfolding fitted
length-fitted f cols xs some =
    elim (cases_lt cols (length xs)) [
      | inl long ↦ rw (lt-leb (length xs) cols long) (length-append (cells_before (cols - 1) xs) (36 ∷ []) ∙ omega (arith, length-before (cols - 1) xs (omega arith) (omega arith)))
      | inr short ↦ rw (le-leb (length xs) cols short) (length-append xs (replicate (cols - length xs) f) ∙ omega (arith, length-replicate {A = ℕ} (cols - length xs) f))
    ]

pub length-shown : (cols s : ℕ) (xs : List ℕ) → 2 ≤ cols → length (shown_row cols s xs) ≡ cols
unfolding shown_row
length-shown cols zero xs some = length-fitted 32 cols xs some
length-shown cols (suc s) xs some = rw (ne_eqb (suc s) 0 (λ e. omega arith)) (length-fitted 32 cols (36 ∷ cells_after (suc s + 1) xs) some)
