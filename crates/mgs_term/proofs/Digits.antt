-- Numbers in digits.
use Rattle.std.proofs.Common.{◌≡◌, ℕ, ◌+◌, ◌-◌, ◌*◌, ◌/◌, ◌%◌, ◌<◌, ◌≤◌, List, [], ◌∷◌, ◌++◌, length, refl, sym, ap, ◌∙◌, arith, ltb, ◌⊎◌, inl, inr}
use Rattle.std.proofs.lemmas.Bool.{ltb-true, ltb-false, cases_Bool}
use Rattle.mgs_term.specs.Sequences.{number}

pub record One (n : ℕ) : Type 0 where
  pub small : n < 10
  pub is : number n ≡ (48 + n) ∷ []

pub record Two (n : ℕ) : Type 0 where
  pub big : 10 ≤ n
  pub small : n < 100
  pub is : number n ≡ (48 + n / 10) ∷ (48 + n % 10) ∷ []

pub record Three (n : ℕ) : Type 0 where
  pub big : 100 ≤ n
  pub is : number n ≡ (48 + n / 100) ∷ (48 + n / 10 % 10) ∷ (48 + n % 10) ∷ []

pub number_cases : (n : ℕ) → One n ⊎ (Two n ⊎ Three n)
number_cases n = elim (cases_Bool (ltb n 10)) [
  | inl e ↦ inl (record { small = ltb-true n 10 e; is = rw e refl })
  | inr e ↦ elim (cases_Bool (ltb n 100)) [
    | inl f ↦ inr (inl (record { big = ltb-false n 10 e; small = ltb-true n 100 f; is = rw (e, f) refl }))
    | inr f ↦ inr (inr (record { big = ltb-false n 100 f; is = rw (e, f) refl }))
  ]
]

-- What follows the digits n in the digits m, before a byte that is none.
pub record Ends (n m b c : ℕ) (t u : List ℕ) : Type 0 where
  pub same : n ≡ m
  pub byte : b ≡ c
  pub rest : t ≡ u

pub record Digit (n m b : ℕ) (t : List ℕ) : Type 0 where
  pub low : 48 ≤ b
  pub high : b ≤ 57
  pub within : n * 10 + (b - 48) ≤ m
  pub more : 1 ≤ length t

pub number_front : (n m b c : ℕ) (t u : List ℕ) → n < 1000 → m < 1000 → 58 ≤ c → number n ++ b ∷ t ≡ number m ++ c ∷ u → Ends n m b c t u ⊎ Digit n m b t
number_front n m b c t u low_n low_m other e = elim (number_cases n) [
  | inl x ↦ elim (number_cases m) [
    | inl y ↦
        let eq : (48 + n) ∷ b ∷ t ≡ (48 + m) ∷ c ∷ u = sym (ap (λ z. z ++ b ∷ t) x.is) ∙ e ∙ ap (λ z. z ++ c ∷ u) y.is in
        let h : 48 + n ≡ 48 + m = cc in
        inl (record { same = omega arith; byte = cc; rest = cc })
    | inr (inl y) ↦
        let eq : (48 + n) ∷ b ∷ t ≡ (48 + m / 10) ∷ (48 + m % 10) ∷ c ∷ u = sym (ap (λ z. z ++ b ∷ t) x.is) ∙ e ∙ ap (λ z. z ++ c ∷ u) y.is in
        let h : 48 + n ≡ 48 + m / 10 = cc in
        let k : b ≡ 48 + m % 10 = cc in
        let q : t ≡ c ∷ u = cc in
        inr (record { low = omega arith; high = omega arith; within = omega arith; more = rw q (omega arith) })
    | inr (inr y) ↦
        let eq : (48 + n) ∷ b ∷ t ≡ (48 + m / 100) ∷ (48 + m / 10 % 10) ∷ (48 + m % 10) ∷ c ∷ u = sym (ap (λ z. z ++ b ∷ t) x.is) ∙ e ∙ ap (λ z. z ++ c ∷ u) y.is in
        let h : 48 + n ≡ 48 + m / 100 = cc in
        let k : b ≡ 48 + m / 10 % 10 = cc in
        let q : t ≡ (48 + m % 10) ∷ c ∷ u = cc in
        inr (record { low = omega arith; high = omega arith; within = omega arith; more = rw q (omega arith) })
  ]
  | inr (inl x) ↦ elim (number_cases m) [
    | inl y ↦
        let eq : (48 + n / 10) ∷ (48 + n % 10) ∷ b ∷ t ≡ (48 + m) ∷ c ∷ u = sym (ap (λ z. z ++ b ∷ t) x.is) ∙ e ∙ ap (λ z. z ++ c ∷ u) y.is in
        let h : 48 + n % 10 ≡ c = cc in
        absurd (omega arith)
    | inr (inl y) ↦
        let eq : (48 + n / 10) ∷ (48 + n % 10) ∷ b ∷ t ≡ (48 + m / 10) ∷ (48 + m % 10) ∷ c ∷ u = sym (ap (λ z. z ++ b ∷ t) x.is) ∙ e ∙ ap (λ z. z ++ c ∷ u) y.is in
        let h : 48 + n / 10 ≡ 48 + m / 10 = cc in
        let k : 48 + n % 10 ≡ 48 + m % 10 = cc in
        inl (record { same = omega arith; byte = cc; rest = cc })
    | inr (inr y) ↦
        let eq : (48 + n / 10) ∷ (48 + n % 10) ∷ b ∷ t ≡ (48 + m / 100) ∷ (48 + m / 10 % 10) ∷ (48 + m % 10) ∷ c ∷ u = sym (ap (λ z. z ++ b ∷ t) x.is) ∙ e ∙ ap (λ z. z ++ c ∷ u) y.is in
        let h : 48 + n / 10 ≡ 48 + m / 100 = cc in
        let k : 48 + n % 10 ≡ 48 + m / 10 % 10 = cc in
        let l : b ≡ 48 + m % 10 = cc in
        let q : t ≡ c ∷ u = cc in
        inr (record { low = omega arith; high = omega arith; within = omega arith; more = rw q (omega arith) })
  ]
  | inr (inr x) ↦ elim (number_cases m) [
    | inl y ↦
        let eq : (48 + n / 100) ∷ (48 + n / 10 % 10) ∷ (48 + n % 10) ∷ b ∷ t ≡ (48 + m) ∷ c ∷ u = sym (ap (λ z. z ++ b ∷ t) x.is) ∙ e ∙ ap (λ z. z ++ c ∷ u) y.is in
        let h : 48 + n / 10 % 10 ≡ c = cc in
        absurd (omega arith)
    | inr (inl y) ↦
        let eq : (48 + n / 100) ∷ (48 + n / 10 % 10) ∷ (48 + n % 10) ∷ b ∷ t ≡ (48 + m / 10) ∷ (48 + m % 10) ∷ c ∷ u = sym (ap (λ z. z ++ b ∷ t) x.is) ∙ e ∙ ap (λ z. z ++ c ∷ u) y.is in
        let h : 48 + n % 10 ≡ c = cc in
        absurd (omega arith)
    | inr (inr y) ↦
        let eq : (48 + n / 100) ∷ (48 + n / 10 % 10) ∷ (48 + n % 10) ∷ b ∷ t ≡ (48 + m / 100) ∷ (48 + m / 10 % 10) ∷ (48 + m % 10) ∷ c ∷ u = sym (ap (λ z. z ++ b ∷ t) x.is) ∙ e ∙ ap (λ z. z ++ c ∷ u) y.is in
        let h : 48 + n / 100 ≡ 48 + m / 100 = cc in
        let k : 48 + n / 10 % 10 ≡ 48 + m / 10 % 10 = cc in
        let l : 48 + n % 10 ≡ 48 + m % 10 = cc in
        inl (record { same = omega arith; byte = cc; rest = cc })
  ]
]

ap_two : {a b c d : ℕ} → a ≡ c → b ≡ d → ◌≡◌ {A = List ℕ} (a ∷ b ∷ []) (c ∷ d ∷ [])
ap_two p q = cc

ap_three : {a b c d e f : ℕ} → a ≡ d → b ≡ e → c ≡ f → ◌≡◌ {A = List ℕ} (a ∷ b ∷ c ∷ []) (d ∷ e ∷ f ∷ [])
ap_three p q r = cc

-- one digit more
pub number_more : (n d : ℕ) → 1 ≤ n → d ≤ 9 → n * 10 + d < 1000 → number (n * 10 + d) ≡ number n ++ (48 + d) ∷ []
number_more n d some small low = elim (number_cases n) [
  | inl x ↦ elim (number_cases (n * 10 + d)) [
    | inl y ↦ absurd (omega arith)
    | inr (inl y) ↦ y.is ∙ ap_two (omega arith) (omega arith) ∙ ap (λ z. z ++ (48 + d) ∷ []) (sym x.is)
    | inr (inr y) ↦ absurd (omega arith)
  ]
  | inr (inl x) ↦ elim (number_cases (n * 10 + d)) [
    | inl y ↦ absurd (omega arith)
    | inr (inl y) ↦ absurd (omega arith)
    | inr (inr y) ↦ y.is ∙ ap_three (omega arith) (omega arith) (omega arith) ∙ ap (λ z. z ++ (48 + d) ∷ []) (sym x.is)
  ]
  | inr (inr x) ↦ absurd (omega arith)
]

-- the first digit
pub record First (m b : ℕ) (u rest : List ℕ) : Type 0 where
  pub digit : ℕ
  pub byte : b ≡ 48 + digit
  pub some : 1 ≤ digit
  pub small : digit ≤ 9
  pub within : digit ≤ m
  pub more : length u ≤ length rest

pub number_first : (m b : ℕ) (u rest : List ℕ) → 1 ≤ m → m < 1000 → number m ++ u ≡ b ∷ rest → First m b u rest
number_first m b u rest some low e = elim (number_cases m) [
  | inl y ↦
      let eq : (48 + m) ∷ u ≡ b ∷ rest = sym (ap (λ z. z ++ u) y.is) ∙ e in
      let q : u ≡ rest = cc in
      record { digit = m; byte = cc; some = some; small = omega arith; within = omega arith; more = rw q (omega arith) }
  | inr (inl y) ↦
      let eq : (48 + m / 10) ∷ (48 + m % 10) ∷ u ≡ b ∷ rest = sym (ap (λ z. z ++ u) y.is) ∙ e in
      let q : (48 + m % 10) ∷ u ≡ rest = cc in
      record { digit = m / 10; byte = cc; some = omega arith; small = omega arith; within = omega arith; more = rw (← q) (omega arith) }
  | inr (inr y) ↦
      let eq : (48 + m / 100) ∷ (48 + m / 10 % 10) ∷ (48 + m % 10) ∷ u ≡ b ∷ rest = sym (ap (λ z. z ++ u) y.is) ∙ e in
      let q : (48 + m / 10 % 10) ∷ (48 + m % 10) ∷ u ≡ rest = cc in
      record { digit = m / 100; byte = cc; some = omega arith; small = omega arith; within = omega arith; more = rw (← q) (omega arith) }
]

pub number-length : (n : ℕ) → 1 ≤ length (number n)
number-length n = elim (number_cases n) [
  | inl y ↦ rw y.is (omega arith)
  | inr (inl y) ↦ rw y.is (omega arith)
  | inr (inr y) ↦ rw y.is (omega arith)
]

pub number_byte : (n b : ℕ) → 1 ≤ n → 48 ≤ b → b ≤ 57 → n * 10 + (b - 48) < 1000 → number (n * 10 + (b - 48)) ≡ number n ++ b ∷ []
number_byte n b some low high small = number_more n (b - 48) some (omega arith) small ∙ ap (λ x. number n ++ x ∷ []) (omega arith)

pub number_one : (b : ℕ) → 49 ≤ b → b ≤ 57 → number (b - 48) ≡ b ∷ []
number_one b low high = elim (number_cases (b - 48)) [
  | inl y ↦ y.is ∙ ap (λ x. x ∷ []) (omega arith)
  | inr (inl y) ↦ absurd (omega arith)
  | inr (inr y) ↦ absurd (omega arith)
]
