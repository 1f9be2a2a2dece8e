-- Numbers below 1000 in decimal.
use Rattle.std.proofs.Common.{◌≡◌, ℕ, ◌+◌, ◌/◌, ◌%◌, ◌<◌, ◌≤◌, [], ◌∷◌, ◌++◌, length, sym, ap, ◌∙◌, inl, inr, arith}
use Rattle.std.specs.Prelude.{decimal}
use Rattle.std.proofs.lemmas.Fmt.{decimal_digit, decimal_step, length-decimal-le}
use Rattle.std.proofs.lemmas.Bool.{cases_lt}
use Rattle.std.proofs.lemmas.Bool.Decides.{nat_tests}
use Rattle.mgs_term.specs.Sequences.{number}

one_digit : (n : ℕ) → n < 10 → number n ≡ (48 + n) ∷ []
one_digit n h = grind (arith, nat_tests)

two_digits : (n : ℕ) → 10 ≤ n → n < 100 → number n ≡ (48 + n / 10) ∷ (48 + n % 10) ∷ []
two_digits n some h = grind (arith, nat_tests)

three_digits : (n : ℕ) → 100 ≤ n → number n ≡ (48 + n / 100) ∷ (48 + n / 10 % 10) ∷ (48 + n % 10) ∷ []
three_digits n some = grind (arith, nat_tests)

-- the digits of a number of two digits, and of one of three
two_in_decimal : (n : ℕ) → 10 ≤ n → n < 100 → decimal n ≡ (48 + n / 10) ∷ (48 + n % 10) ∷ []
two_in_decimal n some h =
    decimal_step n some (omega arith) ∙ ap (λ ds. ds ++ (48 + n % 10) ∷ []) (decimal_digit (n / 10) (omega arith))

three_in_decimal : (n : ℕ) → 100 ≤ n → n < 1000 → decimal n ≡ (48 + n / 100) ∷ (48 + n / 10 % 10) ∷ (48 + n % 10) ∷ []
three_in_decimal n some h =
    let part : n / 10 / 10 ≡ n / 100 = omega arith in
    decimal_step n (omega arith) (omega arith)
    ∙ ap (λ ds. ds ++ (48 + n % 10) ∷ []) (two_in_decimal (n / 10) (omega arith) (omega arith))
    ∙ ap (λ k. (48 + k) ∷ (48 + n / 10 % 10) ∷ (48 + n % 10) ∷ []) part

pub number_in_decimal : (n : ℕ) → n < 1000 → decimal n ≡ number n
number_in_decimal n small =
    elim (cases_lt n 10) [
      | inl one ↦ decimal_digit n one ∙ sym (one_digit n one)
      | inr some ↦ elim (cases_lt n 100) [
        | inl two ↦ two_in_decimal n some two ∙ sym (two_digits n some two)
        | inr more ↦ three_in_decimal n more small ∙ sym (three_digits n more)
      ]
    ]

pub number_short : (n : ℕ) → n < 1000 → length (decimal n) ≤ 3
number_short n small = length-decimal-le 3 n (omega arith) small (omega arith)

pub number_shorter : (n : ℕ) → n < 100 → length (decimal n) ≤ 2
number_shorter n small = length-decimal-le 2 n (omega arith) small (omega arith)
