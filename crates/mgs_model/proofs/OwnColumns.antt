-- The columns of a character past ASCII.
use Rattle.std.proofs.Common.{◌≡◌, ◌<◌, ◌≤◌, ℕ, false, [], ◌∷◌, refl, inl, inr, arith, rules}
use Rattle.std.specs.Prelude.{Option, Some, None}
use Rattle.std.specs.Char.{IsScalar}
use Rattle.std.specs.Str.{all_scalars}
use Rattle.std.proofs.lemmas.Bool.{lt-ltb, le-ltb, cases_lt, cases_eq, cases_Bool, eq-eqb, ne_eqb}
use Rattle.unicode_width.specs.Width.{char_width}
use Rattle.mgs_model.specs.Cells.{one_or_two, own_columns}

pub own_columns_ascii : (c : ℕ) → c < 128 → own_columns c ≡ 0
unfolding own_columns
own_columns_ascii c low = rw (lt-ltb c 128 low) refl

pub own_columns_past : (c : ℕ) → 128 ≤ c → IsScalar c → own_columns c ≡ one_or_two (char_width false c)
unfolding own_columns
own_columns_past c high scalar = rw (le-ltb c 128 high, scalar) refl

none_shown : (n : ℕ) → n ≡ 0 → 1 ≤ n → ⊥
none_shown n e some = omega (arith, e, some)

-- what is shown as itself is a character past ASCII
pub own_is_past : (c : ℕ) → 1 ≤ own_columns c → (128 ≤ c) × IsScalar c
unfolding own_columns
own_is_past c some = elim (cases_lt c 128) [
  | inl low ↦ absurd (none_shown _ (own_columns_ascii c low) some)
  | inr high ↦ elim (cases_Bool (all_scalars (c ∷ []))) [
    | inl e ↦ (high, search (e, rules))
    | inr e ↦ absurd (none_shown (own_columns c) (rw (le-ltb c 128 high, e) refl) some)
  ]
]

few : (w : Option ℕ) → one_or_two w ≤ 2
few None = omega arith
few (Some n) = elim (cases_eq n 1) [
  | inl e ↦ rw (eq-eqb n 1 e) (omega arith)
  | inr e ↦ elim (cases_eq n 2) [ inl f ↦ rw (ne_eqb n 1 e, eq-eqb n 2 f) (omega arith) | inr f ↦ rw (ne_eqb n 1 e, ne_eqb n 2 f) (omega arith) ]
]

pub own_few : (c : ℕ) → own_columns c ≤ 2
unfolding own_columns
own_few c = elim (cases_lt c 128) [
  | inl low ↦ rw (lt-ltb c 128 low) (omega arith)
  | inr high ↦ elim (cases_Bool (all_scalars (c ∷ []))) [
    | inl e ↦ rw (le-ltb c 128 high, e) (few (char_width false c))
    | inr e ↦ rw (le-ltb c 128 high, e) (omega arith)
  ]
]
