-- What lies together behind a place.
use Rattle.std.proofs.Common.{◌≡◌, ℕ, ◌+◌, List, ◌++◌, length, drop, sym, ap, ◌∙◌, arith, length-drop}
use Rattle.std.proofs.lemmas.List.{drop_all, append-nil}

-- all characters behind it
pub all_behind : (xs : List ℕ) (at : ℕ) → drop at xs ≡ drop at xs ++ drop (at + length (drop at xs)) xs
all_behind xs at =
    sym (ap (λ (l : List ℕ). drop at xs ++ l) (drop_all (at + length (drop at xs)) xs (omega (arith, length-drop at xs))) ∙ append-nil (drop at xs))
