-- The words of a text in UTF-8 are in UTF-8, and so is what they spell.
use Rattle.std.proofs.Common.{◌≡◌, ℕ, zero, suc, ◌+◌, ◌<◌, ◌≤◌, true, false, List, [], ◌∷◌, ◌++◌, length, take, drop, get_or, length-drop, refl, subst, arith, inl, inr, Option, Some, None}
use Rattle.std.specs.Prelude.{All, nat_eq, codes, ◌&&◌}
use Rattle.std.specs.List.{slice_split, position_or_len}
use Rattle.std.specs.Str.{IsUtf8, is_utf8, chars, bytes_eq}
use Rattle.std.specs.Char.{encode_utf8}
use Rattle.std.proofs.lemmas.Bool.{cases_Bool, cases_lt, eqb-true, and_parts}
use Rattle.std.proofs.lemmas.Str.{IsUtf8-nil, IsUtf8-append, IsUtf8-from_is_utf8, IsUtf8-take, IsUtf8-drop, IsCharBoundary-before_ascii, IsCharBoundary-after_ascii}
use Rattle.std.proofs.lemmas.List.Splits.{slice_split_first, slice_split_none}
use Rattle.std.proofs.lemmas.List.Sums.{passes_at_first, fails_before_first}
use Rattle.std.proofs.lemmas.List.Elements.{All-from_get_or}
use Rattle.mgs_model.specs.Names.{is_space}
use Rattle.mgs_keys.specs.Words.{is_quotable, words_of}
use Rattle.mgs_keys.specs.Tokens.{quoted_of, spelled_by, then_bytes}
use Rattle.mgs_script.specs.Words.{token_characters}

abbrev pub AreUtf8 : List (List ℕ) → Type 0
AreUtf8 [] = Unit {0}
AreUtf8 (t ∷ ts) = IsUtf8 t × AreUtf8 ts

no_space : (t : List ℕ) → (position_or_len is_space t < length t → ⊥) → All (λ c. is_space c ≡ false) t
no_space t none = All-from_get_or (λ c. is_space c ≡ false) t 0 (λ i within. fails_before_first is_space t i 0 (omega (arith, within, none)))

one_word : (t : List ℕ) → IsUtf8 t → (position_or_len is_space t < length t → ⊥) → AreUtf8 (slice_split is_space t)
one_word t text none = rw (slice_split_none is_space t (no_space t none)) (text, tt)

ascii_space : (c : ℕ) → is_space c ≡ true → c < 128
ascii_space c e = omega (arith, eqb-true c 32 e)

-- a text of at most so many bytes
are_utf8 : (n : ℕ) (t : List ℕ) → length t ≤ n → IsUtf8 t → AreUtf8 (slice_split is_space t)
are_utf8 zero t few text = one_word t text (λ at. omega (arith, at, few))
are_utf8 (suc n) t few text = elim (cases_lt (position_or_len is_space t) (length t)) [
  | inl at ↦
      let i : ℕ = position_or_len is_space t in
      let ascii : get_or t i 0 < 128 = ascii_space (get_or t i 0) (passes_at_first is_space t 0 at) in
      let first : IsUtf8 (take i t) = IsUtf8-take t i text (IsCharBoundary-before_ascii t i at ascii) in
      let rest : IsUtf8 (drop (i + 1) t) = IsUtf8-drop t (i + 1) text (IsCharBoundary-after_ascii t i text at ascii) in
      let less : length (drop (i + 1) t) ≤ n = omega (arith, length-drop (i + 1) t, at, few) in
      rw (slice_split_first is_space t 0 at) (first, are_utf8 n (drop (i + 1) t) less rest)
  | inr far ↦ one_word t text (λ at. omega (arith, at, far))
]

pub words_utf8 : (t : List ℕ) → IsUtf8 t → AreUtf8 (words_of t)
words_utf8 t text = are_utf8 (length t) t (omega arith) text

-- WHAT THEY SPELL

quoted_utf8 : (t xs : List ℕ) → IsUtf8 t → quoted_of t ≡ Some xs → IsUtf8 xs
quoted_utf8 [] xs text e = absurd (cc)
quoted_utf8 (c ∷ cs) xs text e = elim (cases_Bool (nat_eq c 39 && is_quotable cs)) [
  | inl found ↦
      let is : Some cs ≡ Some xs = rw found at e in
      let same : cs ≡ xs = cc in
      let ascii : c < 128 = omega (arith, eqb-true c 39 (and_parts (nat_eq c 39) (is_quotable cs) found).0) in
      subst IsUtf8 same (IsUtf8-drop (c ∷ cs) 1 text (IsCharBoundary-after_ascii (c ∷ cs) 0 text (omega arith) ascii))
  | inr missed ↦ let is : None ≡ Some xs = rw missed at e in absurd (cc)
]

one_byte : (c : ℕ) (xs : List ℕ) → is_utf8 (c ∷ []) ≡ true → Some (c ∷ []) ≡ Some xs → IsUtf8 xs
one_byte c xs text e = let same : c ∷ [] ≡ xs = cc in subst IsUtf8 same (IsUtf8-from_is_utf8 (c ∷ []) text)

line_feed : is_utf8 (10 ∷ []) ≡ true
unfolding is_utf8 chars encode_utf8
line_feed = refl

tab : is_utf8 (9 ∷ []) ≡ true
unfolding is_utf8 chars encode_utf8
tab = refl

space : is_utf8 (32 ∷ []) ≡ true
unfolding is_utf8 chars encode_utf8
space = refl

token_utf8 : (t xs : List ℕ) → IsUtf8 t → token_characters t ≡ Some xs → IsUtf8 xs
unfolding token_characters
token_utf8 t xs text e = elim (cases_Bool (bytes_eq t (codes "RET"))) [
  | inl found ↦ one_byte 10 xs line_feed (rw found at e)
  | inr missed ↦
      let f = rw missed at e in
      elim (cases_Bool (bytes_eq t (codes "TAB"))) [
        | inl found ↦ one_byte 9 xs tab (rw found at f)
        | inr other ↦
            let g = rw other at f in
            elim (cases_Bool (bytes_eq t (codes "SPC"))) [
              | inl found ↦ one_byte 32 xs space (rw found at g)
              | inr last ↦ quoted_utf8 t xs text (rw last at g)
            ]
      ]
]

both_utf8 : (a b : Option (List ℕ)) (bs : List ℕ) → ((xs : List ℕ) → a ≡ Some xs → IsUtf8 xs) → ((xs : List ℕ) → b ≡ Some xs → IsUtf8 xs) → then_bytes a b ≡ Some bs → IsUtf8 bs
both_utf8 None b bs first rest e = absurd (cc)
both_utf8 (Some xs) None bs first rest e = absurd (cc)
both_utf8 (Some xs) (Some ys) bs first rest e = let same : xs ++ ys ≡ bs = cc in subst IsUtf8 same (IsUtf8-append xs ys (first xs refl) (rest ys refl))

are_spelled : (ts : List (List ℕ)) (bs : List ℕ) → AreUtf8 ts → spelled_by token_characters ts ≡ Some bs → IsUtf8 bs
are_spelled [] bs texts e = let same : [] ≡ bs = cc in subst IsUtf8 same IsUtf8-nil
are_spelled (t ∷ ts) bs texts e =
    both_utf8 (token_characters t) (spelled_by token_characters ts) bs (λ xs is. token_utf8 t xs texts.0 is) (λ xs is. are_spelled ts xs texts.1 is) e

-- tokens of a text in UTF-8 spell one
pub spelled_utf8 : (t bs : List ℕ) → IsUtf8 t → spelled_by token_characters (words_of t) ≡ Some bs → IsUtf8 bs
spelled_utf8 t bs text e = are_spelled (words_of t) bs (words_utf8 t text) e
