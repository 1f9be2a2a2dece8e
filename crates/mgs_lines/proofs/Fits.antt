-- Characters that take one cell each, on the way to a column.
use Rattle.std.proofs.Common.{◌≡◌, ℕ, zero, suc, ◌+◌, ◌<◌, ◌≤◌, List, ◌∷◌, ◌++◌, length, take, drop, get_or, sym, ap, ◌∙◌, subst, arith, All}
use Rattle.std.specs.Prelude.{slice_range}
use Rattle.std.proofs.lemmas.List.{drop_more, take-append-le, take-take}
use Rattle.std.proofs.lemmas.List.Elements.{All-head, All-tail}
use Rattle.mgs_model.specs.Cells.{glyph, IsPrintable}
use Rattle.mgs_model.specs.Lines.{line_end}
use Rattle.mgs_model.specs.Walks.{fitting}
use Rattle.mgs_lines.proofs.Feeds.{fitting_more}
use Rattle.mgs_lines.proofs.Glyphs.{glyph-plain}

-- what fits of a line from a place on, and how far it goes
abbrev pub reach : List ℕ → ℕ → ℕ → ℕ → ℕ
reach xs goal column i = i + fitting goal column (slice_range xs i (line_end xs i))

-- visible ASCII that fits is passed
pub reach_plain : (n : ℕ) (xs : List ℕ) (goal column i : ℕ) → i + n ≤ length xs → All IsPrintable (take n (drop i xs)) → column + n ≤ goal → reach xs goal column i ≡ reach xs goal (column + n) (i + n)
reach_plain zero xs goal column i within all fits =
    let c : column ≡ column + 0 = omega arith in
    let k : i ≡ i + 0 = omega arith in
    ap (λ (a : ℕ). reach xs goal a i) c ∙ ap (reach xs goal (column + 0)) k
reach_plain (suc m) xs goal column i within all fits =
    let x : ℕ = get_or xs i 0 in
    let inside : i < length xs = omega (arith, within) in
    let both : All IsPrintable (x ∷ take m (drop (i + 1) xs)) = subst (λ (l : List ℕ). All IsPrintable (take (suc m) l)) (drop_more xs i 0 inside) all in
    let here : IsPrintable x = All-head IsPrintable x (take m (drop (i + 1) xs)) both in
    let low : 32 ≤ x = here.0 in
    let high : x ≤ 126 = here.1 in
    let other : x ≡ 10 → ⊥ = λ e. omega (arith, e, low) in
    let wide : 1 ≡ length (glyph column x) = sym (ap length (glyph-plain column x low (omega (arith, high)))) in
    let one : reach xs goal column i ≡ reach xs goal (column + 1) (i + 1) = fitting_more xs goal column i 1 inside other wide (omega (arith, fits)) in
    let next : reach xs goal (column + 1) (i + 1) ≡ reach xs goal (column + 1 + m) (i + 1 + m) = reach_plain m xs goal (column + 1) (i + 1) (omega (arith, within)) (All-tail IsPrintable x (take m (drop (i + 1) xs)) both) (omega (arith, fits)) in
    let c : column + 1 + m ≡ column + suc m = omega arith in
    let k : i + 1 + m ≡ i + suc m = omega arith in
    one ∙ next ∙ ap (λ (a : ℕ). reach xs goal a (i + 1 + m)) c ∙ ap (reach xs goal (column + suc m)) k

-- what is so of a piece's start is so of the text that it begins
pub plain_behind : (xs piece ys : List ℕ) (count n : ℕ) → xs ≡ piece ++ ys → count ≤ length piece → n ≤ count → All IsPrintable (take n (take count piece)) → All IsPrintable (take n xs)
plain_behind xs piece ys count n begins inside few all =
    subst (All IsPrintable) (take-take n count piece few ∙ sym (ap (take n) begins ∙ take-append-le n piece ys (omega (arith, inside, few)))) all
