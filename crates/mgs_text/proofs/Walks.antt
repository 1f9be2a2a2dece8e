-- One step of the walk to where a line starts.
use Rattle.std.proofs.Common.{◌≡◌, ℕ, zero, suc, ◌+◌, ◌-◌, ◌<◌, ◌≤◌, List, length, drop, get_or, refl, arith}
use Rattle.std.proofs.lemmas.List.{drop_more, drop_all}
use Rattle.std.proofs.lemmas.Bool.{ne_eqb}
use Rattle.std.proofs.Math.Numerals.{sub-one}
use Rattle.mgs_model.specs.Lines.{start_of}

-- a line feed ends a line
pub start_of_feed : (k : ℕ) (xs : List ℕ) (i : ℕ) → 0 < k → i < length xs → get_or xs i 0 ≡ 10 → i + 1 + start_of (k - 1) (drop (i + 1) xs) ≡ i + start_of k (drop i xs)
start_of_feed zero xs i some within feed = absurd (omega arith)
start_of_feed (suc k) xs i some within feed = rw (drop_more xs i 0 within, feed, sub-one) (omega arith)

-- another character does not
pub start_of_other : (k : ℕ) (xs : List ℕ) (i : ℕ) → 0 < k → i < length xs → (get_or xs i 0 ≡ 10 → ⊥) → i + 1 + start_of k (drop (i + 1) xs) ≡ i + start_of k (drop i xs)
start_of_other zero xs i some within other = absurd (omega arith)
start_of_other (suc k) xs i some within other = rw (drop_more xs i 0 within, ne_eqb (get_or xs i 0) 10 other) (omega arith)

-- where no text is left, the line starts there
pub start_of_none : (k : ℕ) (xs : List ℕ) (i : ℕ) → length xs ≤ i → start_of k (drop i xs) ≡ 0
start_of_none zero xs i past = refl
start_of_none (suc k) xs i past = rw (drop_all i xs past) refl
