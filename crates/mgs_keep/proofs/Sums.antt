-- Sums of texts.
use Rattle.std.proofs.Common.{◌≡◌, ◌++◌, ◌+◌, ◌*◌, ◌%◌, ◌^◌, ℕ, List, [], ◌∷◌, drop, length, bit_xor, refl, sym, ap, ◌∙◌}
use Rattle.mgs_keep.specs.Sums.{summed}

-- over a text, and then over another
pub sums_then : (sum : ℕ) (xs ys : List ℕ) → summed sum (xs ++ ys) ≡ summed (summed sum xs) ys
sums_then sum [] ys = refl
sums_then sum (x ∷ xs) ys = sums_then (bit_xor sum x * 0x0000_0100_0000_01b3 % 2 ^ 64) xs ys

-- one piece more
pub piece_summed : (sum then all at : ℕ) (text piece : List ℕ) → drop at text ≡ piece ++ drop (at + length piece) text → then ≡ summed sum piece
    → summed sum (drop at text) ≡ all → summed then (drop (at + length piece) text) ≡ all
piece_summed sum then all at text piece split is made =
    ap (λ (s : ℕ). summed s (drop (at + length piece) text)) is
    ∙ sym (sums_then sum piece (drop (at + length piece) text))
    ∙ ap (λ (cs : List ℕ). summed sum cs) (sym split)
    ∙ made
