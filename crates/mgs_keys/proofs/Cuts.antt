-- A list that is parted at some elements: its first part, and the parts left.
use Rattle.std.proofs.Common.{◌≡◌, ℕ, suc, ◌+◌, ◌<◌, ◌≤◌, List, [], ◌∷◌, length, drop, Option, Some, None, Bor, Bool, sym, ap, ◌∙◌, inl, inr, arith}
use Rattle.std.specs.Prelude.{position}
use Rattle.std.specs.Option.{option_map}
use Rattle.std.specs.List.{slice_split, position_or_len, before_first}
use Rattle.std.proofs.lemmas.Bool.{cases_lt, lt-ltb, le-ltb, cond-true, cond-false}
use Rattle.std.proofs.lemmas.List.{take_all}
use Rattle.std.proofs.lemmas.List.Splits.{slice_split_first, slice_split_none}
use Rattle.std.proofs.lemmas.List.Sums.{fails_before_first}
use Rattle.mgs_keys.specs.Words.{rest_after, parts_after}

-- how much is left
abbrev pub length_left : Option (Bor (List ℕ)) → ℕ
length_left None = 0
length_left (Some t) = suc (length t.now)

position_at : (p : ℕ → Bool) (t : List ℕ) → position_or_len p t < length t → position p t ≡ Some (position_or_len p t)
position_at p t lt = cond-true _ _ _ (lt-ltb _ _ lt)

position_none : (p : ℕ → Bool) (t : List ℕ) → length t ≤ position_or_len p t → position p t ≡ None
position_none p t le = cond-false _ _ _ (le-ltb _ _ le)

-- the parts are the first one and those after it
pub parts_first : (p : ℕ → Bool) (t : List ℕ) → slice_split p t ≡ before_first p t ∷ parts_after p (rest_after p t)
parts_first p t =
    elim (cases_lt (position_or_len p t) (length t)) [
      | inl lt ↦
          slice_split_first p t 0 lt
          ∙ ap (λ (o : Option ℕ). before_first p t ∷ parts_after p (option_map (λ i. drop (i + 1) t) o)) (sym (position_at p t lt))
      | inr le ↦
          slice_split_none p t (λ k d lt. fails_before_first p t k d (omega arith))
          ∙ ap (λ (w : List ℕ). w ∷ []) (sym (take_all (position_or_len p t) t le))
          ∙ ap (λ (o : Option ℕ). before_first p t ∷ parts_after p (option_map (λ i. drop (i + 1) t) o)) (sym (position_none p t le))
    ]

-- the same where the first part and what stands after it are known by other names
pub parts_cut : (p : ℕ → Bool) (t first : List ℕ) (rest : Option (List ℕ)) → first ≡ before_first p t → rest ≡ rest_after p t → slice_split p t ≡ first ∷ parts_after p rest
parts_cut p t first rest is e =
    parts_first p t
    ∙ ap (λ (w : List ℕ). w ∷ parts_after p (rest_after p t)) (sym is)
    ∙ ap (λ (o : Option (List ℕ)). first ∷ parts_after p o) (sym e)
