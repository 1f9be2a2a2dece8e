-- How many characters come in when words are filled: a space and a line feed each take one, so the fill column is nothing to it.
use Rattle.std.proofs.Common.{◌≡◌, ℕ, suc, ◌+◌, ◌-◌, ◌<◌, ◌≤◌, Bool, true, false, not, List, [], ◌∷◌, ◌++◌, length, take, drop, get_or, cond, refl, sym, ap, ◌∙◌, arith, inl, inr, leb, length-append}
use Rattle.std.specs.Prelude.{filter, slice_range}
use Rattle.std.specs.List.{prefix_len, slice_split}
use Rattle.std.proofs.lemmas.Bool.{cases_Bool}
use Rattle.std.proofs.lemmas.List.{drop_more}
use Rattle.std.proofs.lemmas.List.Folds.{length-prefix_len}
use Rattle.mgs_model.specs.Cells.{cells}
use Rattle.mgs_model.specs.Names.{is_filled}
use Rattle.mgs_model.specs.Whites.{is_between, text_words, filled_from, filled_words, refilled}
use Rattle.mgs_fill.specs.Rewriting.{filled_by, is_in_word}
use Rattle.mgs_fill.proofs.Words.{behind, in_word_more, in_word_none, rest_of_words, words_here, words_past}

-- WORDS

-- how many words and what parts each from the one before have
abbrev parted_length : List (List ℕ) → ℕ
parted_length [] = 0
parted_length (w ∷ ws) = 1 + length w + parted_length ws

length_filled_from : (fill column : ℕ) (ws : List (List ℕ)) → length (filled_from fill column ws) ≡ parted_length ws
length_filled_from fill column [] = refl
length_filled_from fill column (w ∷ ws) =
    let k : ℕ = length (cells w) in
    elim (cases_Bool (leb (column + 1 + k) fill)) [
      | inl fits ↦
          let line : length (filled_from fill column (w ∷ ws)) ≡ 1 + length (w ++ filled_from fill (column + 1 + k) ws) = rw fits (omega arith) in
          omega (arith, line, length-append w (filled_from fill (column + 1 + k) ws), length_filled_from fill (column + 1 + k) ws)
      | inr past ↦
          let line : length (filled_from fill column (w ∷ ws)) ≡ 1 + length (w ++ filled_from fill k ws) = rw past (omega arith) in
          omega (arith, line, length-append w (filled_from fill k ws), length_filled_from fill k ws)
    ]

length_filled_words : (fill : ℕ) (ws : List (List ℕ)) → length (filled_words fill ws) ≡ parted_length ws - 1
length_filled_words fill [] = omega arith
length_filled_words fill (w ∷ ws) = omega (arith, length-append w (filled_from fill (length (cells w)) ws), length_filled_from fill (length (cells w)) ws)

-- CHARACTERS

-- the same, counted one character after another
abbrev pub filled_count : Bool → List ℕ → ℕ
filled_count in_word [] = 0
filled_count in_word (c ∷ cs) = filled_by in_word c + filled_count (is_in_word c) cs

counted_past : (in_word : Bool) (c : ℕ) (cs : List ℕ) → is_between c ≡ true → filled_count in_word (c ∷ cs) ≡ filled_count false cs
counted_past in_word c cs between = rw between (omega arith)

counted_on : (c : ℕ) (cs : List ℕ) → is_between c ≡ false → filled_count true (c ∷ cs) ≡ suc (filled_count true cs)
counted_on c cs word = rw word (omega arith)

counted_new : (c : ℕ) (cs : List ℕ) → is_between c ≡ false → filled_count false (c ∷ cs) ≡ suc (suc (filled_count true cs))
counted_new c cs word = rw word (omega arith)

-- in a word: its rest, and then the words behind it
abbrev CountsInWord : List ℕ → Type 0
CountsInWord xs = filled_count true xs ≡ prefix_len is_in_word xs + parted_length (filter is_filled (behind xs))

abbrev CountsWords : List ℕ → Type 0
CountsWords xs = filled_count false xs ≡ parted_length (text_words xs)

counted_in_word : (c : ℕ) (cs : List ℕ) → CountsInWord cs → CountsWords cs → CountsInWord (c ∷ cs)
counted_in_word c cs inside outside =
    elim (cases_Bool (is_between c)) [
      | inl e ↦
          let rest : behind (c ∷ cs) ≡ slice_split is_between cs = ap (λ b. cond b (slice_split is_between cs) (behind cs)) e in
          omega (arith, counted_past true c cs e, outside, in_word_none c cs e, ap (λ ps. parted_length (filter is_filled ps)) rest)
      | inr e ↦
          let rest : behind (c ∷ cs) ≡ behind cs = ap (λ b. cond b (slice_split is_between cs) (behind cs)) e in
          omega (arith, counted_on c cs e, inside, in_word_more c cs e, ap (λ ps. parted_length (filter is_filled ps)) rest)
    ]

counted_words : (c : ℕ) (cs : List ℕ) → CountsInWord cs → CountsWords cs → CountsWords (c ∷ cs)
counted_words c cs inside outside =
    elim (cases_Bool (is_between c)) [
      | inl e ↦ counted_past false c cs e ∙ (outside ∙ sym (ap parted_length (words_past c cs e)))
      | inr e ↦
          let n : ℕ = prefix_len is_in_word (c ∷ cs) in
          let here : parted_length (text_words (c ∷ cs)) ≡ 1 + length (take n (c ∷ cs)) + parted_length (text_words (drop n (c ∷ cs))) = ap parted_length (words_here c cs e) in
          let rest : behind (c ∷ cs) ≡ behind cs = ap (λ b. cond b (slice_split is_between cs) (behind cs)) e in
          omega (arith, counted_new c cs e, inside, here, length-prefix_len is_in_word (c ∷ cs), in_word_more c cs e, ap parted_length (rest_of_words (c ∷ cs)), ap (λ ps. parted_length (filter is_filled ps)) rest)
    ]

counted : (xs : List ℕ) → CountsInWord xs × CountsWords xs
counted [] = (omega arith, refl)
counted (c ∷ cs) =
    let rest : CountsInWord cs × CountsWords cs = counted cs in
    (counted_in_word c cs rest.0 rest.1, counted_words c cs rest.0 rest.1)

pub length_refilled : (fill : ℕ) (xs : List ℕ) → length (refilled fill xs) ≡ filled_count false xs - 1
length_refilled fill xs = length_filled_words fill (text_words xs) ∙ sym (ap (λ n. n - 1) (counted xs).1)

-- STRETCHES of a text, from the first character on

range_more : (xs : List ℕ) (i e : ℕ) → i < e → e ≤ length xs → slice_range xs i e ≡ get_or xs i 0 ∷ slice_range xs (i + 1) e
range_more xs i e some within =
    let wide : e - i ≡ suc (e - (i + 1)) = omega arith in
    ap (λ k. take k (drop i xs)) wide ∙ ap (take (suc (e - (i + 1)))) (drop_more xs i 0 (omega arith))

pub counted_next : (xs : List ℕ) (i e : ℕ) (in_word : Bool) (c by : ℕ) (between : Bool) → i < e → e ≤ length xs → c ≡ get_or xs i 0 → by ≡ filled_by in_word c → between ≡ is_between c
    → filled_count in_word (slice_range xs i e) ≡ by + filled_count (not between) (slice_range xs (i + 1) e)
counted_next xs i e in_word c by between some within is count test =
    let here : filled_count in_word (slice_range xs i e) ≡ filled_by in_word (get_or xs i 0) + filled_count (is_in_word (get_or xs i 0)) (slice_range xs (i + 1) e) = ap (filled_count in_word) (range_more xs i e some within) in
    here ∙ (sym (ap (λ k. filled_by in_word k + filled_count (is_in_word k) (slice_range xs (i + 1) e)) is) ∙ (sym (ap (λ n. n + filled_count (is_in_word c) (slice_range xs (i + 1) e)) count) ∙ sym (ap (λ b. by + filled_count (not b) (slice_range xs (i + 1) e)) test)))

pub counted_all : (xs : List ℕ) (from to i len fill : ℕ) (in_word : Bool) → to ≤ i → len + filled_count in_word (slice_range xs i to) ≡ filled_count false (slice_range xs from to) → length (refilled fill (slice_range xs from to)) ≡ len - 1
counted_all xs from to i len fill in_word past all =
    let none : to - i ≡ 0 = omega arith in
    let empty : filled_count in_word (slice_range xs i to) ≡ 0 = ap (λ k. filled_count in_word (take k (drop i xs))) none in
    omega (arith, length_refilled fill (slice_range xs from to), all, empty)
