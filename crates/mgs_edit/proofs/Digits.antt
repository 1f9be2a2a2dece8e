-- The number that a few digits say.
use Rattle.std.proofs.Common.{◌≡◌, ℕ, ◌+◌, ◌*◌, ◌-◌, ◌≤◌, Bool, true, false, ◌&&◌, List, [], ◌∷◌, length, refl, arith}
use Rattle.std.specs.Prelude.{fold}
use Rattle.std.specs.Char.{is_ascii_digit}
use Rattle.std.specs.List.{list_all}

abbrev pub with_next : ℕ → ℕ → ℕ
with_next n c = n * 10 + (c - 48)

-- the greatest digit each time
abbrev with_nine : ℕ → ℕ → ℕ
with_nine n c = n * 10 + 9

both : (a b : Bool) → (a && b) ≡ true → (a ≡ true) × (b ≡ true)
both true true e = (refl, refl)
both true false e = cc
both false b e = cc

pub digit_small : (c : ℕ) → is_ascii_digit c ≡ true → c - 48 ≤ 9
digit_small c e = grind (arith, e)

-- more digits make no number less
grows : (ds : List ℕ) (n : ℕ) → n ≤ fold with_next n ds
grows [] n = omega arith
grows (c ∷ cs) n = omega (arith, grows cs (with_next n c))

below_nines : (ds : List ℕ) (n most : ℕ) → n ≤ most → list_all is_ascii_digit ds ≡ true → fold with_next n ds ≤ fold with_nine most ds
below_nines [] n most le all = le
below_nines (c ∷ cs) n most le all =
    let parts = both (is_ascii_digit c) (list_all is_ascii_digit cs) all in
    let small = digit_small c parts.0 in
    below_nines cs (with_next n c) (with_nine most c) (omega (arith, le, small)) parts.1

nines : (ds : List ℕ) → length ds ≤ 7 → fold with_nine 0 ds ≤ 9999999
nines [] few = omega arith
nines (a ∷ []) few = omega arith
nines (a ∷ b ∷ []) few = omega arith
nines (a ∷ b ∷ c ∷ []) few = omega arith
nines (a ∷ b ∷ c ∷ d ∷ []) few = omega arith
nines (a ∷ b ∷ c ∷ d ∷ e ∷ []) few = omega arith
nines (a ∷ b ∷ c ∷ d ∷ e ∷ f ∷ []) few = omega arith
nines (a ∷ b ∷ c ∷ d ∷ e ∷ f ∷ g ∷ []) few = omega arith
nines (a ∷ b ∷ c ∷ d ∷ e ∷ f ∷ g ∷ h ∷ more) few = omega (arith, few)

-- a digit among them is one, and the number with it is small
pub next_small : (ds cs : List ℕ) (n c : ℕ) → length ds ≤ 7 → list_all is_ascii_digit ds ≡ true → fold with_next n (c ∷ cs) ≡ fold with_next 0 ds → with_next n c ≤ 9999999
next_small ds cs n c few all value =
    omega (arith, grows cs (with_next n c), value, below_nines ds 0 0 (omega arith) all, nines ds few)
