-- Cells written one after another.
use Rattle.std.proofs.Common.{length-append, map, ◌/◌, ◌%◌, ◌≡◌, ℕ, zero, suc, ◌+◌, ◌-◌, ◌<◌, ◌≤◌, List, [], ◌∷◌, ◌++◌, length, get_or, refl, sym, ap, ◌∙◌, arith, add-zero}
use Rattle.std.proofs.lemmas.List.{length-set, get_or-set_same, get_or-set_other, map_push, length-map}
use Rattle.std.proofs.lemmas.Bool.Decides.{nat_tests}
use Rattle.std.specs.Int.Digits.{digits_of}
use Rattle.std.specs.Char.{digit_char}
use Rattle.std.proofs.lemmas.Int.Digits.{digits_of_step}
use Rattle.std.proofs.lemmas.Grind.{rows}
use Rattle.std.proofs.lemmas.List.Elements.{All-append, All-nil}
use Rattle.mgs_model.specs.Picture.{IsPrintable}
use Rattle.mgs_model.specs.Cells.{escape}
use Rattle.mgs_grid.specs.Cells.{put, over, first_signed, last_signed, finished, Wrote}
use Rattle.std.specs.Prelude.{◌==◌, if◌then◌else◌}
use Rattle.std.proofs.lemmas.Bool.{lt-ltb, le-ltb}

pub length-put : (row : List ℕ) (s n x : ℕ) → length (put row s n x) ≡ length row
unfolding put
length-put row s n x = grind (arith, nat_tests, length-set {A = ℕ})

pub length-over : (row : List ℕ) (s n : ℕ) (xs : List ℕ) → length (over row s n xs) ≡ length row
length-over row s n [] = refl
length-over row s n (x ∷ xs) = length-over (put row s n x) s (n + 1) xs ∙ length-put row s n x

pub over-append : (row : List ℕ) (s n : ℕ) (xs ys : List ℕ) → over row s n (xs ++ ys) ≡ over (over row s n xs) s (n + length xs) ys
over-append row s n [] ys = rw add-zero refl
over-append row s n (x ∷ xs) ys =
    let e : n + 1 + length xs ≡ n + suc (length xs) = omega arith in
    over-append (put row s n x) s (n + 1) xs ys ∙ ap (λ k. over (over (put row s n x) s (n + 1) xs) s k ys) e

pub over_push : (row : List ℕ) (s n : ℕ) (xs : List ℕ) (x : ℕ) → over row s n (xs ++ x ∷ []) ≡ put (over row s n xs) s (n + length xs) x
over_push row s n xs x = over-append row s n xs (x ∷ [])

-- what one cell changes
pub put_here : (row : List ℕ) (s n x j d : ℕ) → s + j ≡ n → j < length row → get_or (put row s n x) j d ≡ x
unfolding put
put_here row s n x j d at within =
    let e : n - s ≡ j = omega arith in
    let l : s ≤ n = omega arith in
    grind (arith, nat_tests, e, get_or-set_same row j x d within)

pub put_elsewhere : (row : List ℕ) (s n x j d : ℕ) → (s + j ≡ n → ⊥) → get_or (put row s n x) j d ≡ get_or row j d
unfolding put
put_elsewhere row s n x j d apart = grind (arith, nat_tests, get_or-set_other row (n - s) j x d)

-- what many cells leave
pub over_before : (row : List ℕ) (s n : ℕ) (xs : List ℕ) (j d : ℕ) → s + j < n → get_or (over row s n xs) j d ≡ get_or row j d
over_before row s n [] j d h = refl
over_before row s n (x ∷ xs) j d h =
    over_before (put row s n x) s (n + 1) xs j d (omega arith) ∙ put_elsewhere row s n x j d (λ e. omega arith)

pub over_behind : (row : List ℕ) (s n : ℕ) (xs : List ℕ) (j d : ℕ) → n + length xs ≤ s + j → get_or (over row s n xs) j d ≡ get_or row j d
over_behind row s n [] j d h = refl
over_behind row s n (x ∷ xs) j d h =
    over_behind (put row s n x) s (n + 1) xs j d (omega arith) ∙ put_elsewhere row s n x j d (λ e. omega arith)

-- what they write: place i of the cells stands in column n + i
pub over_here : (row : List ℕ) (s n : ℕ) (xs : List ℕ) (i j d : ℕ) → n + i ≡ s + j → i < length xs → j < length row → get_or (over row s n xs) j d ≡ get_or xs i d
over_here row s n [] i j d at within sight = absurd (omega arith)
over_here row s n (x ∷ xs) zero j d at within sight =
    over_before (put row s n x) s (n + 1) xs j d (omega arith) ∙ put_here row s n x j d (omega arith) sight
over_here row s n (x ∷ xs) (suc i) j d at within sight =
    over_here (put row s n x) s (n + 1) xs i j d (omega arith) (omega arith) (omega (arith, length-put row s n x))

-- one more digit
pub over_digit : (row : List ℕ) (s n b c : ℕ) → 2 ≤ b → 0 < c → over row s n (map digit_char (digits_of b c)) ≡ put (over row s n (map digit_char (digits_of b (c / b)))) s (n + length (digits_of b (c / b))) (digit_char (c % b))
over_digit row s n b c base some =
    let ds : List ℕ = digits_of b (c / b) in
    let step : digits_of b c ≡ ds ++ (c % b) ∷ [] = digits_of_step b c base some in
    let mapped : map digit_char (digits_of b c) ≡ map digit_char ds ++ digit_char (c % b) ∷ [] = ap (map digit_char) step ∙ map_push digit_char ds (c % b) in
    ap (over row s n) mapped ∙ over_push row s n (map digit_char ds) (digit_char (c % b)) ∙ ap (λ k. put (over row s n (map digit_char ds)) s (n + k) (digit_char (c % b))) (length-map ds digit_char)

three : (row : List ℕ) (s n m k x y z : ℕ) (xs : List ℕ) → n + 1 + 1 ≡ m → m + 1 ≡ k → over row s n (x ∷ y ∷ z ∷ xs) ≡ over (put (put (put row s n x) s (n + 1) y) s m z) s k xs
three row s n m k x y z xs e f =
    ap (λ h. over (put (put (put row s n x) s (n + 1) y) s h z) s (h + 1) xs) e ∙ ap (λ h. over (put (put (put row s n x) s (n + 1) y) s m z) s h xs) f

-- `\u{hex}`
pub over_escape : (row : List ℕ) (s n c : ℕ) → over row s n (escape c) ≡ put (over (put (put (put row s n 92) s (n + 1) 117) s (n + 2) 123) s (n + 3) (map digit_char (digits_of 16 c))) s (n + 3 + length (digits_of 16 c)) 125
over_escape row s n c =
    let ds : List ℕ = map digit_char (digits_of 16 c) in
    let start : List ℕ = put (put (put row s n 92) s (n + 1) 117) s (n + 2) 123 in
    three row s n (n + 2) (n + 3) 92 117 123 (ds ++ 125 ∷ []) (omega arith) (omega arith)
    ∙ over_push start s (n + 3) ds 125
    ∙ ap (λ k. put (over start s (n + 3) ds) s (n + 3 + k) 125) (length-map (digits_of 16 c) digit_char)

-- one piece after another
pub wrote_more : {old mid new : List ℕ} {n m k : ℕ} {xs ys : List ℕ} → Wrote old n xs mid m → Wrote mid m ys new k → Wrote old n (xs ++ ys) new k
wrote_more {old = old} {n = n} {xs = xs} {ys = ys} w v =
    record {
      row_is = v.row_is ∙ rw (w.row_is, w.next_is) (sym (over-append old 0 n xs ys));
      next_is = omega (arith, w.next_is, v.next_is, length-append xs ys);
      printable = All-append IsPrintable xs ys w.printable v.printable;
    }

pub wrote_none : (row : List ℕ) (n : ℕ) → Wrote row n [] row n
wrote_none row n = record { row_is = refl; next_is = omega arith; printable = All-nil IsPrintable }

pub part_smaller : (b n : ℕ) → 2 ≤ b → 0 < n → n / b < n
part_smaller b n base some = grind (arith, rows)

-- a row that was cut, or was short enough
pub cut_long : (row mid : List ℕ) (s n : ℕ) → s + length row < n → mid ≡ last_signed row → (if s == 0 then mid else first_signed mid) ≡ finished row s n
unfolding finished
cut_long row mid s n long is = rw (lt-ltb (s + length row) n long) (ap (λ r. if s == 0 then r else first_signed r) is)

pub cut_short : (row mid : List ℕ) (s n : ℕ) → n ≤ s + length row → mid ≡ row → (if s == 0 then mid else first_signed mid) ≡ finished row s n
unfolding finished
cut_short row mid s n short is = rw (le-ltb (s + length row) n short) (ap (λ r. if s == 0 then r else first_signed r) is)
