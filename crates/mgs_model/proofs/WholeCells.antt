-- Cells that are whole, and what is left of them where they are parted.
use Rattle.std.proofs.Common.{◌≡◌, ℕ, zero, suc, ◌-◌, ◌≤◌, Bool, true, false, List, [], ◌∷◌, ◌++◌, take, drop, replicate, refl, sym, subst, ◌∙◌, inl, inr, arith}
use Rattle.std.specs.Prelude.{All, nat_eq}
use Rattle.std.proofs.lemmas.Bool.{cases_Bool, eqb-false, ne_eqb}
use Rattle.std.proofs.lemmas.List.Elements.{All-head, All-tail}
use Rattle.mgs_model.specs.Cells.{right_half, own_columns, own_cells, is_wide, IsPrintable, IsShown, AreCells, starts_half, unhalved, cells_before, cells_after}
use Rattle.mgs_model.proofs.OwnColumns.{own_is_past, own_columns_ascii}

false_true : false ≡ true → ⊥
false_true e = absurd (cc)

-- what is shown is no half
pub shown_no_half : (c : ℕ) → IsShown c → nat_eq c right_half ≡ false
shown_no_half c shown = elim shown [
  | inl ascii ↦ ne_eqb c 0 (λ e. omega (arith, ascii.0))
  | inr own ↦ ne_eqb c 0 (λ e. omega (arith, (own_is_past c own).0))
]

pub whole_starts : (xs : List ℕ) → AreCells false xs → starts_half xs ≡ false
whole_starts [] h = refl
whole_starts (c ∷ cs) h = shown_no_half c h.0

-- parted where no right half stands
pub whole_cut : (b : Bool) (xs : List ℕ) (k : ℕ) → AreCells b xs → starts_half (drop k xs) ≡ false → AreCells b (take k xs) × AreCells false (drop k xs)
whole_cut true [] k h e = absurd h
whole_cut false [] zero h e = (tt, tt)
whole_cut false [] (suc k) h e = (tt, tt)
whole_cut false (c ∷ cs) zero h e = (tt, h)
whole_cut false (c ∷ cs) (suc k) h e = let r = whole_cut (is_wide c) cs k h.1 e in ((h.0, r.0), r.1)
whole_cut true (c ∷ cs) zero h e = absurd (eqb-false c right_half e h.0)
whole_cut true (c ∷ cs) (suc k) h e = let r = whole_cut false cs k h.1 e in ((h.0, r.0), r.1)

-- behind a right half stands none
pub after_half : (b : Bool) (xs : List ℕ) (e : ℕ) → AreCells b xs → starts_half (drop e xs) ≡ true → starts_half (drop (suc e) xs) ≡ false
after_half true [] e h t = absurd h
after_half false [] zero h t = refl
after_half false [] (suc e) h t = refl
after_half false (c ∷ cs) zero h t = absurd (false_true (sym (shown_no_half c h.0) ∙ t))
after_half true (c ∷ cs) zero h t = whole_starts cs h.1
after_half false (c ∷ cs) (suc e) h t = after_half (is_wide c) cs e h.1 t
after_half true (c ∷ cs) (suc e) h t = after_half false cs e h.1 t

-- from a column on, where a right half may be due
drop_some : (b : Bool) (xs : List ℕ) (k : ℕ) → AreCells b xs → (b' : Bool) × AreCells b' (drop k xs)
drop_some true [] k h = absurd h
drop_some false [] zero h = (false, tt)
drop_some false [] (suc k) h = (false, tt)
drop_some b (c ∷ cs) zero h = (b, h)
drop_some false (c ∷ cs) (suc k) h = drop_some (is_wide c) cs k h.1
drop_some true (c ∷ cs) (suc k) h = drop_some false cs k h.1

pub whole_append : (b : Bool) (xs ys : List ℕ) → AreCells b xs → AreCells false ys → AreCells b (xs ++ ys)
whole_append true [] ys h k = absurd h
whole_append false [] ys h k = k
whole_append false (x ∷ xs) ys h k = (h.0, whole_append (is_wide x) xs ys h.1 k)
whole_append true (x ∷ xs) ys h k = (h.0, whole_append false xs ys h.1 k)

-- visible ASCII is whole
ascii_narrow : (c : ℕ) → c ≤ 126 → is_wide c ≡ false
ascii_narrow c low = rw (own_columns_ascii c (omega arith)) refl

pub lit_whole : (c : ℕ) (cs : List ℕ) → IsPrintable c → AreCells false cs → AreCells false (c ∷ cs)
lit_whole c cs p h = (inl p, subst (λ b. AreCells b cs) (sym (ascii_narrow c p.1)) h)

pub printable_whole : (xs : List ℕ) → All IsPrintable xs → AreCells false xs
printable_whole [] all = tt
printable_whole (x ∷ xs) all = lit_whole x xs (All-head IsPrintable x xs all) (printable_whole xs (All-tail IsPrintable x xs all))

pub replicate_whole : (n c : ℕ) → IsPrintable c → AreCells false (replicate n c)
replicate_whole zero c p = tt
replicate_whole (suc n) c p = lit_whole c (replicate n c) p (replicate_whole n c p)

-- a character's own cells are whole
pub own_whole : (c : ℕ) → 1 ≤ own_columns c → AreCells false (own_cells c)
own_whole c some = elim (cases_Bool (is_wide c)) [
  | inl e ↦ rw e (inr some, subst (λ b. AreCells b (right_half ∷ [])) (sym e) (refl, tt))
  | inr e ↦ rw e (inr some, subst (λ b. AreCells b []) (sym e) tt)
]

blank : IsPrintable 32
blank = (omega arith, omega arith)

mend : (b : Bool) (xs : List ℕ) → AreCells b xs → AreCells false (unhalved xs)
mend true [] h = absurd h
mend false [] h = tt
mend false (c ∷ cs) h = rw (shown_no_half c h.0) h
mend true (c ∷ cs) h = rw h.0 (lit_whole 32 cs blank h.1)

-- what is left where a row is cut is whole
pub after_whole : (xs : List ℕ) (k : ℕ) → AreCells false xs → AreCells false (cells_after k xs)
after_whole xs k h = let r = drop_some false xs k h in mend r.0 (drop k xs) r.1

pub before_whole : (xs : List ℕ) (k : ℕ) → AreCells false xs → AreCells false (cells_before k xs)
before_whole xs zero h = rw (whole_starts xs h) tt
before_whole xs (suc k) h = elim (cases_Bool (starts_half (drop (suc k) xs))) [
  | inl e ↦
      let none : starts_half (drop k xs) ≡ false = elim (cases_Bool (starts_half (drop k xs))) [ inl t ↦ absurd (false_true (sym (after_half false xs k h t) ∙ e)) | inr f ↦ f ] in
      let less : suc k - 1 ≡ k = omega arith in
      rw (e, less) (whole_append false (take k xs) (32 ∷ []) (whole_cut false xs k h none).0 (lit_whole 32 [] blank tt))
  | inr e ↦ rw e (whole_cut false xs (suc k) h e).0
]
