-- Runs of characters that are shown in one cell each.
use Rattle.std.proofs.Common.{◌≡◌, ℕ, ◌+◌, ◌-◌, ◌<◌, ◌≤◌, min, List, [], ◌∷◌, ◌++◌, length, take, drop, get_or, refl, sym, ap, ◌∙◌, arith, inl, inr, length-append, length-take, length-drop, drop-drop, All}
use Rattle.std.proofs.lemmas.List.{same_lists, get_or-append_right, get_or_append_left, get_or-take, get_or-drop, take-append-drop, take_more}
use Rattle.std.proofs.lemmas.List.Elements.{All-head, All-tail, All-push}
use Rattle.std.proofs.lemmas.Bool.{cases_lt}
use Rattle.mgs_model.specs.Cells.{cells_from, IsPrintable}
use Rattle.mgs_lines.proofs.Glyphs.{glyph-plain}
use Rattle.mgs_lines.proofs.Walks.{cells_from-append}
use Rattle.mgs_grid.specs.Cells.{over}
use Rattle.mgs_grid.proofs.CellLemmas.{length-over, over-append, over_before, over_here, over_behind}

-- their cells are the characters
pub plain_cells : (n : ℕ) (xs : List ℕ) → All IsPrintable xs → cells_from n xs ≡ xs
plain_cells n [] h = refl
plain_cells n (x ∷ xs) h =
    let here : IsPrintable x = All-head IsPrintable x xs h in
    let high : x ≤ 126 = here.1 in
    ap (λ (g : List ℕ). g ++ cells_from (n + length g) xs) (glyph-plain n x here.0 (omega (arith, high)))
    ∙ ap (λ (l : List ℕ). x ∷ l) (plain_cells (n + length (x ∷ [])) xs (All-tail IsPrintable x xs h))

pub plain_more : (xs : List ℕ) (i c : ℕ) → i < length xs → c ≡ get_or xs i 0 → 32 ≤ c → c < 127 → All IsPrintable (take i xs) → All IsPrintable (take (i + 1) xs)
plain_more xs i c within is low high all =
    let here : IsPrintable (get_or xs i 0) = (omega (arith, is, low), omega (arith, is, high)) in
    rw (take_more xs i 0 within) (All-push IsPrintable (take i xs) (get_or xs i 0) all here)

-- A RUN IS COPIED: those of its characters that are in sight, into the cells where they are seen

run_within : (row xs : List ℕ) (s n skip first count i d : ℕ) → skip ≡ min (s - n) (length xs) → first ≡ min (n - s) (length row) → count ≡ min (length xs - skip) (length row - first) → i < length row → first ≤ i → i - first < count → get_or (take count (drop skip xs) ++ drop count (drop first row)) (i - first) d ≡ get_or (over row s n xs) i d
run_within row xs s n skip first count i d is_skip is_first is_count sight past within =
    let ys : List ℕ = take count (drop skip xs) in
    let wide : length ys ≡ count = omega (arith, length-take count (drop skip xs), length-drop skip xs, is_count) in
    get_or_append_left ys (drop count (drop first row)) d (i - first) (omega (arith, wide, within))
    ∙ get_or-take count (drop skip xs) (i - first) d within
    ∙ get_or-drop skip xs (i - first) d
    ∙ sym (over_here row s n xs (skip + (i - first)) i d (omega (arith, is_skip, is_first, is_count, sight, past, within)) (omega (arith, is_count, within)) sight)

run_behind : (row xs : List ℕ) (s n skip first count i d : ℕ) → skip ≡ min (s - n) (length xs) → first ≡ min (n - s) (length row) → count ≡ min (length xs - skip) (length row - first) → i < length row → first ≤ i → count ≤ i - first → get_or (take count (drop skip xs) ++ drop count (drop first row)) (i - first) d ≡ get_or (over row s n xs) i d
run_behind row xs s n skip first count i d is_skip is_first is_count sight past behind =
    let ys : List ℕ = take count (drop skip xs) in
    let wide : length ys ≡ count = omega (arith, length-take count (drop skip xs), length-drop skip xs, is_count) in
    let at : first + (count + (i - first - count)) ≡ i = omega (arith, past, behind) in
    get_or-append_right ys (drop count (drop first row)) count (i - first) d wide behind
    ∙ get_or-drop count (drop first row) (i - first - count) d
    ∙ get_or-drop first row (count + (i - first - count)) d
    ∙ ap (λ j. get_or row j d) at
    ∙ sym (over_behind row s n xs i d (omega (arith, is_skip, is_first, is_count, sight, past, behind)))

run_at : (row xs : List ℕ) (s n skip first count i d : ℕ) → skip ≡ min (s - n) (length xs) → first ≡ min (n - s) (length row) → count ≡ min (length xs - skip) (length row - first) → i < length row → get_or (take first row ++ (take count (drop skip xs) ++ drop count (drop first row))) i d ≡ get_or (over row s n xs) i d
run_at row xs s n skip first count i d is_skip is_first is_count sight =
    let rest : List ℕ = take count (drop skip xs) ++ drop count (drop first row) in
    let front : length (take first row) ≡ first = omega (arith, length-take first row, is_first) in
    elim (cases_lt i first) [
      | inl before ↦
          get_or_append_left (take first row) rest d i (omega (arith, front, before))
          ∙ get_or-take first row i d before
          ∙ sym (over_before row s n xs i d (omega (arith, is_first, before)))
      | inr past ↦
          get_or-append_right (take first row) rest first i d front past
          ∙ (elim (cases_lt (i - first) count) [
            | inl within ↦ run_within row xs s n skip first count i d is_skip is_first is_count sight past within
            | inr behind ↦ run_behind row xs s n skip first count i d is_skip is_first is_count sight past behind
          ])
    ]

pub run_over : (row xs : List ℕ) (s n skip first count : ℕ) → skip ≡ min (s - n) (length xs) → first ≡ min (n - s) (length row) → count ≡ min (length xs - skip) (length row - first) → take first row ++ (take count (drop skip xs) ++ drop count (drop first row)) ≡ over row s n xs
run_over row xs s n skip first count is_skip is_first is_count =
    let ys : List ℕ = take count (drop skip xs) in
    let post : List ℕ = drop count (drop first row) in
    let wide : length ys ≡ count = omega (arith, length-take count (drop skip xs), length-drop skip xs, is_count) in
    let left : length (take first row ++ (ys ++ post)) ≡ length row = omega (arith, wide, is_first, is_count, length-append (take first row) (ys ++ post), length-append ys post, length-take first row, length-drop count (drop first row), length-drop first row) in
    same_lists _ _ (left ∙ sym (length-over row s n xs)) (λ i d h. run_at row xs s n skip first count i d is_skip is_first is_count (omega (arith, left, h)))

-- SOME CHARACTERS, AND THOSE BEHIND THEM

some_split : (chars : List ℕ) (at k : ℕ) → drop at chars ≡ take k (drop at chars) ++ drop (at + k) chars
some_split chars at k = sym (take-append-drop k (drop at chars)) ∙ ap (λ (l : List ℕ). take k (drop at chars) ++ l) (drop-drop k at chars)

pub some_more : (chars row new all : List ℕ) (s at k n m : ℕ) → new ≡ over row s n (cells_from n (take k (drop at chars))) → m ≡ n + length (cells_from n (take k (drop at chars))) → over row s n (cells_from n (drop at chars)) ≡ all → over new s m (cells_from m (drop (at + k) chars)) ≡ all
some_more chars row new all s at k n m put next so_far =
    let here : List ℕ = take k (drop at chars) in
    let rest : List ℕ = drop (at + k) chars in
    rw (put, next) (sym (over-append row s n (cells_from n here) (cells_from (n + length (cells_from n here)) rest)) ∙ sym (ap (over row s n) (cells_from-append n here rest)) ∙ sym (ap (λ (l : List ℕ). over row s n (cells_from n l)) (some_split chars at k)) ∙ so_far)

pub some_ends : (chars : List ℕ) (at k n m all : ℕ) → m ≡ n + length (cells_from n (take k (drop at chars))) → n + length (cells_from n (drop at chars)) ≡ all → m + length (cells_from m (drop (at + k) chars)) ≡ all
some_ends chars at k n m all next so_far =
    let here : List ℕ = take k (drop at chars) in
    let rest : List ℕ = drop (at + k) chars in
    let behind : List ℕ = cells_from (n + length (cells_from n here)) rest in
    let sum : length (cells_from n (drop at chars)) ≡ length (cells_from n here) + length behind = ap (λ (l : List ℕ). length (cells_from n l)) (some_split chars at k) ∙ ap length (cells_from-append n here rest) ∙ length-append (cells_from n here) behind in
    rw (next) (omega (arith, sum, so_far))
