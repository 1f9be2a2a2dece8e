-- The words of a text, cut at its first space.
use Rattle.std.proofs.Common.{◌≡◌, ℕ, ◌+◌, ◌==◌, List, [], ◌∷◌, length, map, take, drop, refl, sym, ap, ◌∙◌, inl, inr, true, false, cond, arith}
use Rattle.std.specs.Prelude.{filter, not}
use Rattle.std.specs.List.{slice_split, before_first, after_first, position_or_len}
use Rattle.std.proofs.lemmas.List.Splits.{slice_split_first, slice_split_none}
use Rattle.std.proofs.lemmas.List.Sums.{fails_before_first}
use Rattle.std.proofs.lemmas.List.{take_all, drop_all, take-map, drop-map, length-map}
use Rattle.std.proofs.lemmas.Bool.{cases_lt}
use Rattle.mgs_model.specs.Names.{is_space}
use Rattle.mgs_model.specs.Names.{is_filled}
use Rattle.mgs_model.specs.Spelling.{words}

-- the first piece of a text, and the words after it
first_word : (text : List ℕ) → words text ≡ filter is_filled (before_first is_space text ∷ slice_split is_space (after_first is_space text))
first_word text =
    elim (cases_lt (position_or_len is_space text) (length text)) [
      | inl within ↦ ap (filter is_filled) (slice_split_first is_space text 0 within)
      | inr over ↦
          let front : before_first is_space text ≡ text = take_all (position_or_len is_space text) text over in
          let rest : after_first is_space text ≡ [] = drop_all (position_or_len is_space text + 1) text (omega arith) in
          ap (filter is_filled) (slice_split_none is_space text (λ k d within. fails_before_first is_space text k d (omega arith)))
          ∙ ap (λ (piece : List ℕ). filter is_filled (piece ∷ slice_split is_space [])) (sym front)
          ∙ ap (λ (after_it : List ℕ). filter is_filled (before_first is_space text ∷ slice_split is_space after_it)) (sym rest)
    ]

-- the same of characters, each of a number
module _ {X : Type 0} (number : X → ℕ) where
  first_space : (text : List X) → position_or_len is_space (map number text) ≡ position_or_len (λ c. is_space (number c)) text
  first_space [] = refl
  first_space (c ∷ text) = ap (λ n. cond (not (is_space (number c))) (1 + n) 0) (first_space text)

  before_space : (text : List X) → before_first is_space (map number text) ≡ map number (before_first (λ c. is_space (number c)) text)
  before_space text = ap (λ n. take n (map number text)) (first_space text) ∙ take-map number (position_or_len (λ c. is_space (number c)) text) text

  after_space : (text : List X) → after_first is_space (map number text) ≡ map number (after_first (λ c. is_space (number c)) text)
  after_space text = ap (λ n. drop (n + 1) (map number text)) (first_space text) ∙ drop-map number (position_or_len (λ c. is_space (number c)) text + 1) text

  words_from : (text piece rest : List X) → piece ≡ before_first (λ c. is_space (number c)) text → rest ≡ after_first (λ c. is_space (number c)) text → words (map number text) ≡ filter is_filled (map number piece ∷ slice_split is_space (map number rest))
  words_from text piece rest front after =
      first_word (map number text)
      ∙ ap (λ p. filter is_filled (p ∷ slice_split is_space (after_first is_space (map number text)))) (before_space text ∙ ap (map number) (sym front))
      ∙ ap (λ r. filter is_filled (map number piece ∷ slice_split is_space r)) (after_space text ∙ ap (map number) (sym after))

  -- where there are characters before the first space, they are the first word
  pub words_filled : (text piece rest : List X) → piece ≡ before_first (λ c. is_space (number c)) text → rest ≡ after_first (λ c. is_space (number c)) text → (length piece == 0) ≡ false → words (map number text) ≡ map number piece ∷ words (map number rest)
  words_filled text piece rest front after some = words_from text piece rest front after ∙ rw (length-map piece number, some) refl

  -- and where there are none, there is no word
  pub words_empty : (text piece rest : List X) → piece ≡ before_first (λ c. is_space (number c)) text → rest ≡ after_first (λ c. is_space (number c)) text → (length piece == 0) ≡ true → words (map number text) ≡ words (map number rest)
  words_empty text piece rest front after none = words_from text piece rest front after ∙ rw (length-map piece number, none) refl
