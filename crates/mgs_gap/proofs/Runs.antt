-- Runs of characters that are written into a row of places.
use Rattle.std.proofs.Common.{◌≡◌, ℕ, ◌+◌, ◌<◌, List, Option, Some, map, set, get_or, length, sym, ap, ap₂, ◌∙◌, arith}
use Rattle.std.proofs.lemmas.List.{length-map, get_or-map}
use Rattle.std.proofs.lemmas.List.Edits.{paste_more}
use Rattle.mgs_gap.specs.Places.{written}

-- i of the characters are there
pub fill_next : (cs ds : List (Option ℕ)) (to i : ℕ) (xs : List ℕ) (c : ℕ) → to + i < length cs → i < length xs → ds ≡ written cs to xs i → c ≡ get_or xs i c → set ds (to + i) (Some c) ≡ written cs to xs (i + 1)
fill_next cs ds to i xs c room less now read =
    let value : Some c ≡ get_or (map Some xs) i (Some c) = ap (λ (x : ℕ). Some x) read ∙ sym (get_or-map Some xs i c (Some c) less) in
    ap₂ (λ (l : List (Option ℕ)) x. set l (to + i) x) now value ∙ paste_more cs to (map Some xs) i (Some c) room (omega (arith, less, length-map xs Some))
