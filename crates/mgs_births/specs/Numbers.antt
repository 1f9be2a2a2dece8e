-- What numbers are good for: no two buffers have the same.
use Rattle.std.specs.Prelude.{ℕ, ◌≡◌, ◌<◌, ◌-◌, ◌^◌, ◌⊎◌, List, ◌∷◌}
use Rattle.mgs_model.specs.Outcome.{Effect, Kill}
use Rattle.mgs_births.specs.Births.{births_after, no_births, number_of}

-- buffers of two names have two numbers, whatever was made and killed before
abbrev pub NumbersDiffer : Type 0
NumbersDiffer =
    (es : List Effect) (m n : List ℕ) → (births_after es no_births).next < 2 ^ 64 - 1 → number_of m (births_after es no_births) ≡ number_of n (births_after es no_births)
    → (number_of n (births_after es no_births) ≡ 0) ⊎ (m ≡ n)

-- the number of a buffer that was killed is no buffer's again, whatever is made after it
abbrev pub NumbersEnd : Type 0
NumbersEnd =
    (es fs : List Effect) (m n : List ℕ) → (births_after (Kill n ∷ fs) (births_after es no_births)).next < 2 ^ 64 - 1
    → number_of m (births_after (Kill n ∷ fs) (births_after es no_births)) ≡ number_of n (births_after es no_births) → number_of n (births_after es no_births) ≡ 0
