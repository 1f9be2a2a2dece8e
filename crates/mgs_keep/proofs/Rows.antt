-- The rows that a journal is to keep, and those that it keeps, at an index.
use Rattle.std.proofs.Common.{◌≡◌, ℕ, zero, suc, ◌≤◌, ◌<◌, List, [], ◌∷◌, length, map, Some, None, refl, sym, ap, ◌∙◌, subst, arith}
use Rattle.std.proofs.lemmas.List.{length-map}
use Rattle.std.proofs.lemmas.Option.{slice_get-map, slice_get_within}
use Rattle.std.specs.Option.{option_map}
use Rattle.std.specs.Prelude.{get_or, slice_get}
use Rattle.mgs_laws.specs.Apart.{Rules}
use Rattle.mgs_births.specs.Births.{Births, number_of}
use Rattle.mgs_journal.specs.Rows.{KeptRights, births_in_rows, rules_in_rows}
use Rattle.mgs_keep.specs.Keeping.{row_of}

pub row_at : (births : Births) (rules : List Rules) (i : ℕ) (r : Rules) (n : ℕ) → Some r ≡ slice_get rules i → n ≡ number_of r.name births
    → Some (record { rules = r; birth = n }) ≡ slice_get (map (row_of births) rules) i
row_at births rules i r n at is =
    ap (λ (b : ℕ). Some (record { rules = r; birth = b })) is ∙ ap (option_map (row_of births)) at ∙ sym (slice_get-map (row_of births) rules i)

pub no_row_at : (births : Births) (rules : List Rules) (i : ℕ) → None ≡ slice_get rules i → None ≡ slice_get (map (row_of births) rules) i
no_row_at births rules i at = ap (option_map (row_of births)) at ∙ sym (slice_get-map (row_of births) rules i)

some_is : {A : Type 0} (a b : A) → Some a ≡ Some b → a ≡ b
some_is a b e = cc

pub kept_at : (rows : List KeptRights) (j : ℕ) (r : Rules) (n : ℕ) → Some r ≡ slice_get (rules_in_rows rows) j → n ≡ get_or (births_in_rows rows) j 0
    → Some (record { rules = r; birth = n }) ≡ slice_get rows j
kept_at [] j r n at is = cc
kept_at (k ∷ rows) zero r n at is =
    ap (λ (s : Rules). Some (record { rules = s; birth = n })) (some_is r k.rules at) ∙ ap (λ (b : ℕ). Some (record { rules = k.rules; birth = b })) is
kept_at (k ∷ rows) (suc j) r n at is = kept_at rows j r n at is

pub none_kept_at : (rows : List KeptRights) (j : ℕ) → None ≡ slice_get (rules_in_rows rows) j → None ≡ slice_get rows j
none_kept_at [] j at = refl
none_kept_at (k ∷ rows) zero at = cc
none_kept_at (k ∷ rows) (suc j) at = none_kept_at rows j at

-- how many there are, by what stands at an index
pub few_at : {A B : Type 0} (f : A → B) (xs : List A) (i : ℕ) → None ≡ slice_get (map f xs) i → length xs ≤ i
few_at f [] i at = omega arith
few_at f (x ∷ xs) zero at = cc
few_at f (x ∷ xs) (suc i) at = more (length xs) i (few_at f xs i at)
  where
    more : (m n : ℕ) → m ≤ n → suc m ≤ suc n
    more m n e = omega (arith, e)

pub many_at : {A B : Type 0} (f : A → B) (xs : List A) (i : ℕ) (b : B) → Some b ≡ slice_get (map f xs) i → i < length xs
many_at f xs i b at = subst (λ n. i < n) (length-map xs f) (slice_get_within (map f xs) i b (sym at))

pub few_rows : (births : Births) (rules : List Rules) (n : ℕ) → length rules ≤ n → length (map (row_of births) rules) ≤ n
few_rows births rules n few = subst (λ m. m ≤ n) (sym (length-map rules (row_of births))) few

pub many_rows : (births : Births) (rules : List Rules) (n : ℕ) → n < length rules → n < length (map (row_of births) rules)
many_rows births rules n many = subst (λ m. n < m) (sym (length-map rules (row_of births))) many
