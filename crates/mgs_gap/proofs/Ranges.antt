-- A range of a text that stands in two parts.
use Rattle.std.proofs.Common.{◌≡◌, ℕ, ◌+◌, ◌-◌, ◌<◌, ◌≤◌, List, ◌++◌, take, drop, length, slice_range, sym, ap, ap₂, ◌∙◌, arith, length-append, length-drop}
use Rattle.std.proofs.lemmas.List.{append-nil, drop_all, drop-append-le, take-append-le}
use Rattle.std.proofs.Math.Seq.{drop-append-add, drop-append_seam, take-append-add}

pub range_front : (xs ys : List ℕ) (a b : ℕ) → a ≤ b → b ≤ length xs → slice_range (xs ++ ys) a b ≡ slice_range xs a b
range_front xs ys a b order h = ap (λ (l : List ℕ). take (b - a) l) (drop-append-le a xs ys (omega (arith, order, h))) ∙ take-append-le (b - a) (drop a xs) ys (omega (arith, order, h, length-drop a xs))

pub range_back : (xs ys : List ℕ) (a b : ℕ) → a ≤ b → length xs ≤ a → slice_range (xs ++ ys) a b ≡ slice_range ys (a - length xs) (b - length xs)
range_back xs ys a b order h =
    let at : a ≡ length xs + (a - length xs) = omega (arith, h) in
    let long : b - a ≡ b - length xs - (a - length xs) = omega (arith, h, order) in
    ap₂ (λ n (l : List ℕ). take n l) long (ap (λ i. drop i (xs ++ ys)) at ∙ drop-append-add xs ys (a - length xs))

pub range_both : (xs ys : List ℕ) (a b : ℕ) → a ≤ length xs → length xs ≤ b → slice_range (xs ++ ys) a b ≡ drop a xs ++ take (b - length xs) ys
range_both xs ys a b h k =
    let long : b - a ≡ length (drop a xs) + (b - length xs) = omega (arith, h, k, length-drop a xs) in
    ap₂ (λ n (l : List ℕ). take n l) long (drop-append-le a xs ys h) ∙ take-append-add (drop a xs) ys (b - length xs)

-- all of the first part behind a place, and all of the second one
pub piece_front : (xs ys : List ℕ) (at : ℕ) → at < length xs → drop at (xs ++ ys) ≡ drop at xs ++ drop (at + length (drop at xs)) (xs ++ ys)
piece_front xs ys at within =
    let end : at + length (drop at xs) ≡ length xs = omega (arith, within, length-drop at xs) in
    drop-append-le at xs ys (omega (arith, within)) ∙ sym (ap (λ (l : List ℕ). drop at xs ++ l) (ap (λ i. drop i (xs ++ ys)) end ∙ drop-append_seam xs ys))

pub piece_back : (xs ys : List ℕ) (at : ℕ) → length xs ≤ at → drop at (xs ++ ys) ≡ drop (at - length xs) ys ++ drop (at + length (drop (at - length xs) ys)) (xs ++ ys)
piece_back xs ys at past =
    let i : ℕ = at - length xs in
    let from : at ≡ length xs + i = omega (arith, past) in
    let end : length (xs ++ ys) ≤ at + length (drop i ys) = omega (arith, past, length-append xs ys, length-drop i ys) in
    ap (λ k. drop k (xs ++ ys)) from ∙ drop-append-add xs ys i
    ∙ sym (ap (λ (l : List ℕ). drop i ys ++ l) (drop_all (at + length (drop i ys)) (xs ++ ys) end) ∙ append-nil (drop i ys))
