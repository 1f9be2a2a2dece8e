-- Cells that are whole, and where they may be parted.
use Rattle.std.proofs.Common.{◌≡◌, ◌⊎◌, ℕ, zero, suc, ◌+◌, ◌<◌, ◌≤◌, Bool, true, false, List, [], ◌∷◌, length, get_or, drop, refl, sym, subst, ◌∙◌, inl, inr, arith}
use Rattle.std.specs.Prelude.{nat_lt, nat_eq}
use Rattle.std.proofs.lemmas.Bool.{cases_Bool, eqb-true, eqb-false, eq-eqb, ne_eqb, lt-ltb, and_right}
use Rattle.std.proofs.lemmas.List.{get_or_read, get_or_past}
use Rattle.mgs_model.specs.Cells.{right_half, is_wide, AreCells, starts_half}
pub use Rattle.mgs_model.proofs.WholeCells.{shown_no_half, whole_starts, whole_cut, after_half}
use Rattle.mgs_paint.specs.Changes.{change_start, whole_end}

false_true : false ≡ true → ⊥
false_true e = absurd (cc)

-- two rows first differ where no right half stands
pub start_whole : (b : Bool) (xs ys : List ℕ) → AreCells b xs → AreCells b ys → length xs ≡ length ys → starts_half (drop (change_start xs ys) ys) ≡ false
start_whole b [] [] h k n = refl
start_whole b [] (y ∷ ys) h k n = absurd (omega arith)
start_whole b (x ∷ xs) [] h k n = absurd (omega arith)
start_whole false (x ∷ xs) (y ∷ ys) h k n = elim (cases_Bool (nat_eq x y)) [
  | inl e ↦ rw e (start_whole (is_wide y) xs ys (subst (λ z. AreCells (is_wide z) xs) (eqb-true x y e) h.1) k.1 (omega arith))
  | inr e ↦ rw e (shown_no_half y k.0)
]
start_whole true (x ∷ xs) (y ∷ ys) h k n = elim (cases_Bool (nat_eq x y)) [
  | inl e ↦ rw e (start_whole false xs ys h.1 k.1 (omega arith))
  | inr e ↦ absurd (eqb-false x y e (h.0 ∙ sym k.0))
]

pub start_whole_old : (b : Bool) (xs ys : List ℕ) → AreCells b xs → AreCells b ys → length xs ≡ length ys → starts_half (drop (change_start xs ys) xs) ≡ false
start_whole_old b [] [] h k n = refl
start_whole_old b [] (y ∷ ys) h k n = absurd (omega arith)
start_whole_old b (x ∷ xs) [] h k n = absurd (omega arith)
start_whole_old false (x ∷ xs) (y ∷ ys) h k n = elim (cases_Bool (nat_eq x y)) [
  | inl e ↦ rw e (start_whole_old (is_wide y) xs ys (subst (λ z. AreCells (is_wide z) xs) (eqb-true x y e) h.1) k.1 (omega arith))
  | inr e ↦ rw e (shown_no_half x h.0)
]
start_whole_old true (x ∷ xs) (y ∷ ys) h k n = elim (cases_Bool (nat_eq x y)) [
  | inl e ↦ rw e (start_whole_old false xs ys h.1 k.1 (omega arith))
  | inr e ↦ absurd (eqb-false x y e (h.0 ∙ sym k.0))
]

pub read_half : (xs : List ℕ) (e : ℕ) → nat_eq (get_or xs e 32) right_half ≡ starts_half (drop e xs)
read_half [] zero = refl
read_half [] (suc e) = refl
read_half (x ∷ xs) zero = refl
read_half (x ∷ xs) (suc e) = read_half xs e

-- the end of a change is behind the right half that stands there
pub end_cases : (text : List ℕ) (e : ℕ) → ((whole_end text e ≡ e + 1) × (0 < e) × (starts_half (drop e text) ≡ true)) ⊎ ((whole_end text e ≡ e) × (0 < e → starts_half (drop e text) ≡ false))
end_cases text zero = inr (refl, λ l. absurd (omega arith))
end_cases text (suc e) = elim (cases_Bool (nat_eq (get_or text (suc e) 32) right_half)) [
  | inl t ↦ inl (rw (t, lt-ltb 0 (suc e) (omega arith)) refl, omega arith, sym (read_half text (suc e)) ∙ t)
  | inr f ↦ inr (rw (f, lt-ltb 0 (suc e) (omega arith)) refl, λ l. sym (read_half text (suc e)) ∙ f)
]

pub end_whole : (text : List ℕ) (e : ℕ) → AreCells false text → starts_half (drop (whole_end text e) text) ≡ false
end_whole text zero h = whole_starts text h
end_whole text (suc e) h = elim (end_cases text (suc e)) [
  | inl p ↦ rw p.0 (subst (λ n. starts_half (drop n text) ≡ false) {x = suc (suc e)} (omega arith) (after_half false text (suc e) h p.2))
  | inr p ↦ rw p.0 (p.1 (omega arith))
]

half_within : (text : List ℕ) (e : ℕ) → starts_half (drop e text) ≡ true → e < length text
half_within [] zero t = absurd (false_true t)
half_within [] (suc e) t = absurd (false_true t)
half_within (c ∷ cs) zero t = omega arith
half_within (c ∷ cs) (suc e) t = let r : e < length cs = half_within cs e t in omega arith

pub end_within : (text : List ℕ) (e : ℕ) → e ≤ length text → (e ≤ whole_end text e) × (whole_end text e ≤ length text)
end_within text e l = elim (end_cases text e) [
  | inl p ↦ let w : e < length text = half_within text e p.2 in rw p.0 (omega arith, omega arith)
  | inr p ↦ rw p.0 (omega arith, l)
]

pub end_none : (text : List ℕ) (e : ℕ) → whole_end text e ≡ 0 → e ≡ 0
end_none text e z = elim (end_cases text e) [ inl p ↦ absurd (omega (arith, p.0, z)) | inr p ↦ sym p.0 ∙ z ]

pub end_zero : (text : List ℕ) → whole_end text 0 ≡ 0
end_zero text = refl

pub half_here : (text : List ℕ) (e c : ℕ) → 0 < e → c ≡ get_or text e c → e < length text → c ≡ right_half → e + 1 ≡ whole_end text e
half_here text e c some read within is =
    let r : get_or text e 32 ≡ right_half = sym (get_or_read text e c within read 32) ∙ is in
    rw (eq-eqb (get_or text e 32) right_half r, lt-ltb 0 e some) refl

pub half_none : (text : List ℕ) (e c : ℕ) → c ≡ get_or text e c → e < length text → (c ≡ right_half → ⊥) → e ≡ whole_end text e
half_none text e c read within other =
    let r : get_or text e 32 ≡ right_half → ⊥ = λ is. other (get_or_read text e c within read 32 ∙ is) in
    rw (ne_eqb (get_or text e 32) right_half r, and_right (nat_lt 0 e) false refl) refl

pub half_past : (text : List ℕ) (e : ℕ) → (e ≡ 0) ⊎ (e ≡ length text) → e ≡ whole_end text e
half_past text e h = elim h [
  | inl z ↦ rw z refl
  | inr all ↦
      let r : get_or text e 32 ≡ 32 = get_or_past text e 32 (omega arith) in
      rw (r, and_right (nat_lt 0 e) false refl) refl
]
