-- Columns that are counted over more than one character.
use Rattle.std.proofs.Common.{◌≡◌, ℕ, ◌+◌, ◌-◌, ◌<◌, ◌≤◌, zero, suc, List, [], ◌∷◌, ◌++◌, length, take, drop, get_or, refl, sym, ap, ◌∙◌, arith, length-append, zero-add, drop-drop, All}
use Rattle.std.specs.Prelude.{slice_range}
use Rattle.std.proofs.lemmas.List.{take-append-le, take_all, take_more}
use Rattle.std.proofs.lemmas.List.Elements.{All-head, All-tail, All-push}
use Rattle.mgs_model.specs.Cells.{glyph, cells_from, IsPrintable}
use Rattle.mgs_lines.proofs.Glyphs.{glyph-plain}
use Rattle.mgs_lines.proofs.Walks.{cells_from-append}

-- visible ASCII takes a cell for each character
pub cells_plain : (n : ℕ) (xs : List ℕ) → All IsPrintable xs → length (cells_from n xs) ≡ length xs
cells_plain n [] all = refl
cells_plain n (x ∷ xs) all =
    let here : IsPrintable x = All-head IsPrintable x xs all in
    let low : 32 ≤ x = here.0 in
    let high : x ≤ 126 = here.1 in
    let m : ℕ = n + length (glyph n x) in
    omega (arith, length-append (glyph n x) (cells_from m xs), ap length (glyph-plain n x low (omega (arith, high))), cells_plain m xs (All-tail IsPrintable x xs all))

pub plain_more : (xs : List ℕ) (i : ℕ) → i < length xs → IsPrintable (get_or xs i 0) → All IsPrintable (take i xs) → All IsPrintable (take (i + 1) xs)
plain_more xs i within here all = rw (take_more xs i 0 within) (All-push IsPrintable (take i xs) (get_or xs i 0) all here)

-- the column behind characters is where those behind them begin
pub behind_begin : (n m : ℕ) (xs ys : List ℕ) → m ≡ n + length (cells_from n xs) → m + length (cells_from m ys) ≡ n + length (cells_from n (xs ++ ys))
behind_begin n m xs ys is =
    let k : ℕ = n + length (cells_from n xs) in
    ap (λ (j : ℕ). j + length (cells_from j ys)) is
    ∙ omega (arith, length-append (cells_from n xs) (cells_from k ys), ap length (cells_from-append n xs ys))

-- one character more
pub behind_more : (n at w i : ℕ) (xs : List ℕ) → i < length xs → at ≡ n + length (cells_from n (take i xs)) → w ≡ length (glyph at (get_or xs i 0)) → at + w ≡ n + length (cells_from n (take (i + 1) xs))
behind_more n at w i xs within so_far one =
    let x : ℕ = get_or xs i 0 in
    let last : length (cells_from at (x ∷ [])) ≡ w = length-append (glyph at x) [] ∙ omega (arith, one) in
    let all : at + length (cells_from at (x ∷ [])) ≡ n + length (cells_from n (take i xs ++ x ∷ [])) = behind_begin n at (take i xs) (x ∷ []) so_far in
    omega (arith, last, all, ap (λ (l : List ℕ). length (cells_from n l)) (take_more xs i 0 within))

-- some characters of a piece are those of the text
pub taken_split : (k n : ℕ) (ys : List ℕ) → take (n + k) ys ≡ take n ys ++ take k (drop n ys)
taken_split k zero ys = ap (λ m. take m ys) (zero-add k)
taken_split k (suc n) [] =
    let none : List ℕ = [] in
    let more : suc n + k ≡ suc (n + k) = omega arith in
    ap (λ m. take m none) more ∙ sym (take_all k none (omega arith))
taken_split k (suc n) (y ∷ ys) =
    let more : suc n + k ≡ suc (n + k) = omega arith in
    ap (λ m. take m (y ∷ ys)) more ∙ ap (λ (l : List ℕ). y ∷ l) (taken_split k n ys)

pub range_piece : (xs piece : List ℕ) (i n p : ℕ) → drop i xs ≡ piece ++ drop (i + length piece) xs → n ≤ length piece → i + n ≤ p → slice_range xs i p ≡ take n piece ++ slice_range xs (i + n) p
range_piece xs piece i n p lies few order =
    let sum : p - i ≡ n + (p - (i + n)) = omega (arith, order) in
    let front : take n (drop i xs) ≡ take n piece = ap (take n) lies ∙ take-append-le n piece (drop (i + length piece) xs) few in
    ap (λ (k : ℕ). take k (drop i xs)) sum
    ∙ taken_split (p - (i + n)) n (drop i xs)
    ∙ ap (λ (l : List ℕ). l ++ take (p - (i + n)) (drop n (drop i xs))) front
    ∙ ap (λ (l : List ℕ). take n piece ++ take (p - (i + n)) l) (drop-drop n i xs)
