-- A plus that stands before a number.
use Rattle.std.proofs.Common.{◌≡◌, ℕ, ◌<◌, Bool, true, false, cond, subst, List, [], ◌∷◌, drop, rules, arith}
use Rattle.std.specs.Prelude.{Result, OkIff, slice_index, ◌==◌}
use Rattle.std.specs.Char.{digit_value}
use Rattle.std.specs.Str.Parse.{IsNumeral, digits_value, ParsesUnsigned}
use Rattle.mgs_command.specs.Ports.{IsPort}

-- a word with one is no port
pub signed_is_none : (word : List ℕ) → (slice_index word 0 == 43) ≡ true → IsPort word → ⊥
signed_is_none [] h port = absurd (cc)
signed_is_none (c ∷ cs) h port =
    let is : c ≡ 43 = search rules in
    let digit : digit_value 43 < 10 = subst (λ n. digit_value n < 10) is port.0.1.0 in
    omega (arith, digit)

-- a word without one is read as it stands
pub read_as_is : {E : Type 0} (word : List ℕ) (r : Result ℕ E) → (slice_index word 0 == 43) ≡ false → ParsesUnsigned 16 10 word r → OkIff r (IsPort word) (digits_value 10 word)
read_as_is word r h read =
    subst (λ (plus : Bool). OkIff r (IsNumeral 10 (drop (cond plus 1 0) word) × (digits_value 10 (drop (cond plus 1 0) word) < 65536)) (digits_value 10 (drop (cond plus 1 0) word))) h read
