-- The cells of a character, case by case.
use Rattle.std.proofs.Common.{◌≡◌, ℕ, ◌+◌, ◌-◌, ◌%◌, ◌<◌, ◌≤◌, [], ◌∷◌, length, map, refl, arith, length-append, replicate, inl, inr, sym}
use Rattle.std.proofs.lemmas.List.{length-map}
use Rattle.std.specs.Int.Digits.{digits_of}
use Rattle.std.specs.Char.{digit_char}
use Rattle.std.proofs.lemmas.Bool.Decides.{nat_tests}
use Rattle.std.proofs.lemmas.Bool.{cases_eq, eq-eqb, ne_eqb}
use Rattle.mgs_model.proofs.OwnColumns.{own_few}
use Rattle.mgs_model.specs.Cells.{glyph, escape, own_columns, own_cells}

pub glyph-tab : (n c : ℕ) → c ≡ 9 → glyph n c ≡ replicate (8 - n % 8) 32
unfolding glyph
glyph-tab n c e = rw e refl

pub glyph-control : (n c : ℕ) → (c ≡ 9 → ⊥) → c < 32 → glyph n c ≡ 94 ∷ (c + 64) ∷ []
unfolding glyph
glyph-control n c e l = grind (arith, nat_tests)

pub glyph-plain : (n c : ℕ) → 32 ≤ c → c < 127 → glyph n c ≡ c ∷ []
unfolding glyph
glyph-plain n c l m = grind (arith, nat_tests)

pub glyph-delete : (n c : ℕ) → c ≡ 127 → glyph n c ≡ 94 ∷ 63 ∷ []
unfolding glyph
glyph-delete n c e = rw e refl

pub glyph-escape : (n c : ℕ) → 127 ≤ c → (c ≡ 127 → ⊥) → own_columns c ≡ 0 → glyph n c ≡ escape c
unfolding glyph
glyph-escape n c l e none = grind (arith, nat_tests)

pub glyph-own : (n c : ℕ) → 127 ≤ c → (c ≡ 127 → ⊥) → (own_columns c ≡ 0 → ⊥) → glyph n c ≡ own_cells c
unfolding glyph
glyph-own n c l e some = grind (arith, nat_tests)

-- as many cells as columns
pub length-own : (c : ℕ) → (own_columns c ≡ 0 → ⊥) → length (own_cells c) ≡ own_columns c
length-own c some = elim (cases_eq (own_columns c) 2) [
  | inl e ↦ rw (eq-eqb (own_columns c) 2 e) (sym e)
  | inr e ↦ rw (ne_eqb (own_columns c) 2 e) (omega (arith, own_few c))
]

pub length-escape : (c : ℕ) → length (escape c) ≡ 4 + length (digits_of 16 c)
length-escape c = omega (arith, length-append (map digit_char (digits_of 16 c)) (125 ∷ []), length-map (digits_of 16 c) digit_char)
