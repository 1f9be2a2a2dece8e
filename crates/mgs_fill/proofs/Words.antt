-- The words of a text, one after another.
use Rattle.std.proofs.Common.{◌≡◌, ℕ, zero, suc, ◌+◌, ◌-◌, ◌<◌, ◌≤◌, true, false, not, cond, List, [], ◌∷◌, ◌++◌, length, take, drop, get_or, refl, sym, ap, ◌∙◌, arith, inl, inr, subst, leb, min, append_assoc, length-drop}
use Rattle.std.specs.Prelude.{filter, slice_range}
use Rattle.std.specs.List.{slice_split, onto_first, prefix_len}
use Rattle.std.proofs.lemmas.Bool.{cases_Bool, cases_lt, lt-leb, ne_eqb, leb-true, leb-false}
use Rattle.std.proofs.lemmas.List.{drop_all, drop_more, get_or-drop, take_all, append-nil}
use Rattle.std.proofs.lemmas.List.Sums.{prefix_len_stops}
use Rattle.mgs_model.specs.Cells.{cells}
use Rattle.std.proofs.lemmas.List.Splits.{slice_split-cons_yes, slice_split-cons_no}
use Rattle.mgs_model.specs.Walks.{over}
use Rattle.mgs_model.specs.Names.{is_filled}
use Rattle.mgs_model.specs.Whites.{is_between, text_words, filled_from, filled_words, refilled}
use Rattle.mgs_fill.specs.Rewriting.{is_in_word}

drop_on : (a n e : ℕ) (xs : List ℕ) → e ≡ a + n → drop e xs ≡ drop n (drop a xs)
drop_on zero n e xs is = let same : e ≡ n = omega arith in ap (λ k. drop k xs) same
drop_on (suc a) n e [] is = drop_all e [] (omega arith) ∙ sym (drop_all n [] (omega arith))
drop_on (suc a) n e (x ∷ xs) is = let more : e ≡ suc (a + n) = omega arith in ap (λ k. drop k (x ∷ xs)) more ∙ drop_on a n (a + n) xs refl

-- what parts words is passed over
pub words_past : (c : ℕ) (cs : List ℕ) → is_between c ≡ true → text_words (c ∷ cs) ≡ text_words cs
words_past c cs between = ap (filter is_filled) (slice_split-cons_yes is_between c cs between)

words_over : (xs : List ℕ) → text_words xs ≡ text_words (drop (prefix_len is_between xs) xs)
words_over [] = refl
words_over (c ∷ cs) =
    elim (cases_Bool (is_between c)) [
      | inl e ↦
          let more : prefix_len is_between (c ∷ cs) ≡ suc (prefix_len is_between cs) = ap (λ b. cond b (1 + prefix_len is_between cs) 0) e ∙ omega arith in
          words_past c cs e ∙ (words_over cs ∙ sym (ap (λ k. text_words (drop k (c ∷ cs))) more))
      | inr e ↦
          let none : prefix_len is_between (c ∷ cs) ≡ 0 = ap (λ b. cond b (1 + prefix_len is_between cs) 0) e in
          sym (ap (λ k. text_words (drop k (c ∷ cs))) none)
    ]

-- the pieces behind the first
abbrev pub behind : List ℕ → List (List ℕ)
behind [] = []
behind (c ∷ cs) = cond (is_between c) (slice_split is_between cs) (behind cs)

pub in_word_more : (c : ℕ) (cs : List ℕ) → is_between c ≡ false → prefix_len is_in_word (c ∷ cs) ≡ suc (prefix_len is_in_word cs)
in_word_more c cs word = ap (λ b. cond (not b) (1 + prefix_len is_in_word cs) 0) word ∙ omega arith

pub in_word_none : (c : ℕ) (cs : List ℕ) → is_between c ≡ true → prefix_len is_in_word (c ∷ cs) ≡ 0
in_word_none c cs between = ap (λ b. cond (not b) (1 + prefix_len is_in_word cs) 0) between

first_piece : (xs : List ℕ) → slice_split is_between xs ≡ take (prefix_len is_in_word xs) xs ∷ behind xs
first_piece [] = refl
first_piece (c ∷ cs) =
    elim (cases_Bool (is_between c)) [
      | inl e ↦
          let rest : behind (c ∷ cs) ≡ slice_split is_between cs = ap (λ b. cond b (slice_split is_between cs) (behind cs)) e in
          slice_split-cons_yes is_between c cs e ∙ (sym (ap (λ k. take k (c ∷ cs) ∷ slice_split is_between cs) (in_word_none c cs e)) ∙ sym (ap (λ ls. take (prefix_len is_in_word (c ∷ cs)) (c ∷ cs) ∷ ls) rest))
      | inr e ↦
          let rest : behind (c ∷ cs) ≡ behind cs = ap (λ b. cond b (slice_split is_between cs) (behind cs)) e in
          slice_split-cons_no is_between c cs e ∙ (ap (onto_first c) (first_piece cs) ∙ (sym (ap (λ k. take k (c ∷ cs) ∷ behind cs) (in_word_more c cs e)) ∙ sym (ap (λ ls. take (prefix_len is_in_word (c ∷ cs)) (c ∷ cs) ∷ ls) rest)))
    ]

pub rest_of_words : (xs : List ℕ) → filter is_filled (behind xs) ≡ text_words (drop (prefix_len is_in_word xs) xs)
rest_of_words [] = refl
rest_of_words (c ∷ cs) =
    elim (cases_Bool (is_between c)) [
      | inl e ↦
          let rest : behind (c ∷ cs) ≡ slice_split is_between cs = ap (λ b. cond b (slice_split is_between cs) (behind cs)) e in
          ap (filter is_filled) rest ∙ (sym (words_past c cs e) ∙ sym (ap (λ k. text_words (drop k (c ∷ cs))) (in_word_none c cs e)))
      | inr e ↦
          let rest : behind (c ∷ cs) ≡ behind cs = ap (λ b. cond b (slice_split is_between cs) (behind cs)) e in
          ap (filter is_filled) rest ∙ (rest_of_words cs ∙ sym (ap (λ k. text_words (drop k (c ∷ cs))) (in_word_more c cs e)))
    ]

-- a word that begins here
pub words_here : (c : ℕ) (cs : List ℕ) → is_between c ≡ false → text_words (c ∷ cs) ≡ take (prefix_len is_in_word (c ∷ cs)) (c ∷ cs) ∷ text_words (drop (prefix_len is_in_word (c ∷ cs)) (c ∷ cs))
words_here c cs word =
    let n : ℕ = prefix_len is_in_word (c ∷ cs) in
    let any : is_filled (take n (c ∷ cs)) ≡ true = ap (λ k. is_filled (take k (c ∷ cs))) (in_word_more c cs word) ∙ ap not (ne_eqb (suc (length (take (prefix_len is_in_word cs) cs))) 0 (λ none. omega (arith, none))) in
    let rest : List (List ℕ) = filter is_filled (behind (c ∷ cs)) in
    ap (filter is_filled) (first_piece (c ∷ cs)) ∙ (ap (λ b. cond b (take n (c ∷ cs) ∷ rest) rest) any ∙ ap (λ ws. take n (c ∷ cs) ∷ ws) (rest_of_words (c ∷ cs)))

-- BY PLACES

pub words_from : (xs : List ℕ) (at s : ℕ) → s ≡ over is_between xs at → text_words (drop at xs) ≡ text_words (drop s xs)
words_from xs at s is = words_over (drop at xs) ∙ sym (ap text_words (drop_on at (prefix_len is_between (drop at xs)) s xs is))

pub word_at : (xs : List ℕ) (s e : ℕ) → s < length xs → is_between (get_or xs s 0) ≡ false → e ≡ over is_in_word xs s → text_words (drop s xs) ≡ slice_range xs s e ∷ text_words (drop e xs)
word_at xs s e within word is =
    let n : ℕ = prefix_len is_in_word (drop s xs) in
    let c : ℕ = get_or xs s 0 in
    let cs : List ℕ = drop (s + 1) xs in
    let cut : drop s xs ≡ c ∷ cs = drop_more xs s 0 within in
    let wide : e - s ≡ n = omega arith in
    let here : text_words (drop s xs) ≡ take n (drop s xs) ∷ text_words (drop n (drop s xs)) = subst (λ ys. text_words ys ≡ take (prefix_len is_in_word ys) ys ∷ text_words (drop (prefix_len is_in_word ys) ys)) (sym cut) (words_here c cs word) in
    here ∙ (sym (ap (λ k. take k (drop s xs) ∷ text_words (drop n (drop s xs))) wide) ∙ sym (ap (λ ys. slice_range xs s e ∷ text_words ys) (drop_on s n e xs is)))

-- behind what parts words a word begins, unless the text ends
between_stops : (xs : List ℕ) (at s : ℕ) → s ≡ over is_between xs at → s < length xs → is_between (get_or xs s 0) ≡ false
between_stops xs at s is within =
    let n : ℕ = prefix_len is_between (drop at xs) in
    let inside : n < length (drop at xs) = omega (arith, length-drop at xs) in
    ap (λ k. is_between (get_or xs k 0)) is ∙ (ap is_between (sym (get_or-drop at xs n 0)) ∙ prefix_len_stops is_between (drop at xs) 0 inside)

pub next_word : (xs : List ℕ) (at s e : ℕ) → s ≡ over is_between xs at → s < length xs → e ≡ over is_in_word xs s → text_words (drop at xs) ≡ slice_range xs s e ∷ text_words (drop e xs)
next_word xs at s e start within end = words_from xs at s start ∙ word_at xs s e within (between_stops xs at s start within) end

pub no_word : (xs : List ℕ) (at s : ℕ) → s ≡ over is_between xs at → s ≡ length xs → text_words (drop at xs) ≡ []
no_word xs at s start past = words_from xs at s start ∙ ap text_words (drop_all s xs (omega arith))

pub word_is_some : (xs : List ℕ) (at s e : ℕ) → s ≡ over is_between xs at → s < length xs → e ≡ over is_in_word xs s → s < e
word_is_some xs at s e start within end =
    let cut : drop s xs ≡ get_or xs s 0 ∷ drop (s + 1) xs = drop_more xs s 0 within in
    let some : prefix_len is_in_word (drop s xs) ≡ suc (prefix_len is_in_word (drop (s + 1) xs)) = ap (prefix_len is_in_word) cut ∙ in_word_more (get_or xs s 0) (drop (s + 1) xs) (between_stops xs at s start within) in
    omega (arith, some)

-- FILLING: widths are measured no further than the fill column

-- a line that is full already takes no word, whatever its width
filled_full : (fill c d : ℕ) (ws : List (List ℕ)) → fill ≤ c → fill ≤ d → filled_from fill c ws ≡ filled_from fill d ws
filled_full fill c d [] h k = refl
filled_full fill c d (w ∷ ws) h k =
    let one : leb (c + 1 + length (cells w)) fill ≡ false = lt-leb (c + 1 + length (cells w)) fill (omega arith) in
    let other : leb (d + 1 + length (cells w)) fill ≡ false = lt-leb (d + 1 + length (cells w)) fill (omega arith) in
    rw (one, other) refl

filled_cut : (fill column : ℕ) (ws : List (List ℕ)) → filled_from fill (min column fill) ws ≡ filled_from fill column ws
filled_cut fill column ws =
    elim (cases_lt column fill) [
      | inl less ↦
          let same : min column fill ≡ column = omega arith in
          ap (λ n. filled_from fill n ws) same
      | inr more ↦
          let cut : fill ≤ min column fill = omega arith in
          filled_full fill (min column fill) column ws cut more
    ]

pub filled_first : (fill s e wide : ℕ) (xs out : List ℕ) → s ≡ over is_between xs 0 → s ≤ length xs → e ≡ over is_in_word xs s → s ≤ e → e ≤ length xs → wide ≡ min (length (cells (slice_range xs s e))) fill → out ≡ slice_range xs s e
    → out ++ filled_from fill wide (text_words (drop e xs)) ≡ refilled fill xs
filled_first fill s e wide xs out start inside end order within is same =
    elim (cases_lt s (length xs)) [
      | inl more ↦
          let all : text_words xs ≡ slice_range xs s e ∷ text_words (drop e xs) = next_word xs 0 s e start more end in
          let cut : filled_from fill wide (text_words (drop e xs)) ≡ filled_from fill (length (cells (slice_range xs s e))) (text_words (drop e xs)) = ap (λ w. filled_from fill w (text_words (drop e xs))) is ∙ filled_cut fill (length (cells (slice_range xs s e))) (text_words (drop e xs)) in
          ap (λ o. o ++ filled_from fill wide (text_words (drop e xs))) same ∙ (ap (λ o. slice_range xs s e ++ o) cut ∙ sym (ap (filled_words fill) all))
      | inr past ↦
          let none : text_words xs ≡ [] = no_word xs 0 s start (omega arith) in
          let left : text_words (drop e xs) ≡ [] = ap text_words (drop_all e xs (omega arith)) in
          let empty : slice_range xs s e ≡ [] = ap (take (e - s)) (drop_all s xs past) ∙ take_all (e - s) [] (omega arith) in
          ap (λ o. o ++ filled_from fill wide (text_words (drop e xs))) (same ∙ empty) ∙ (ap (filled_from fill wide) left ∙ sym (ap (filled_words fill) none))
    ]

-- a word that fits was measured to its end
pub filled_on : (fill column at s e wide : ℕ) (xs out new all : List ℕ) → s ≡ over is_between xs at → s < length xs → e ≡ over is_in_word xs s → wide ≡ min (length (cells (slice_range xs s e))) fill → leb (column + 1 + wide) fill ≡ true
    → new ≡ out ++ (32 ∷ slice_range xs s e) → out ++ filled_from fill column (text_words (drop at xs)) ≡ all → new ++ filled_from fill (column + (1 + wide)) (text_words (drop e xs)) ≡ all
filled_on fill column at s e wide xs out new all start within end is fits put before =
    let w : List ℕ = slice_range xs s e in
    let k : ℕ = length (cells w) in
    let rest : List (List ℕ) = text_words (drop e xs) in
    let inside : column + 1 + wide ≤ fill = leb-true (column + 1 + wide) fill fits in
    let whole : wide ≡ k = omega arith in
    let fit : leb (column + 1 + k) fill ≡ true = sym (ap (λ n. leb (column + 1 + n) fill) whole) ∙ fits in
    let width : column + (1 + wide) ≡ column + 1 + k = omega arith in
    let line : filled_from fill column (w ∷ rest) ≡ 32 ∷ (w ++ filled_from fill (column + 1 + k) rest) = rw fit refl in
    let next : filled_from fill column (text_words (drop at xs)) ≡ 32 ∷ (w ++ filled_from fill (column + 1 + k) rest) = ap (filled_from fill column) (next_word xs at s e start within end) ∙ line in
    ap (λ o. o ++ filled_from fill (column + (1 + wide)) rest) put ∙ (ap (λ n. (out ++ (32 ∷ w)) ++ filled_from fill n rest) width ∙ (append_assoc out (32 ∷ w) (filled_from fill (column + 1 + k) rest) ∙ (sym (ap (λ o. out ++ o) next) ∙ before)))

pub filled_below : (fill column at s e wide : ℕ) (xs out new all : List ℕ) → s ≡ over is_between xs at → s < length xs → e ≡ over is_in_word xs s → wide ≡ min (length (cells (slice_range xs s e))) fill → leb (column + 1 + wide) fill ≡ false
    → new ≡ out ++ (10 ∷ slice_range xs s e) → out ++ filled_from fill column (text_words (drop at xs)) ≡ all → new ++ filled_from fill wide (text_words (drop e xs)) ≡ all
filled_below fill column at s e wide xs out new all start within end is fits put before =
    let w : List ℕ = slice_range xs s e in
    let k : ℕ = length (cells w) in
    let rest : List (List ℕ) = text_words (drop e xs) in
    let past : fill < column + 1 + wide = leb-false (column + 1 + wide) fill fits in
    let fit : leb (column + 1 + k) fill ≡ false = lt-leb (column + 1 + k) fill (omega arith) in
    let line : filled_from fill column (w ∷ rest) ≡ 10 ∷ (w ++ filled_from fill k rest) = rw fit refl in
    let next : filled_from fill column (text_words (drop at xs)) ≡ 10 ∷ (w ++ filled_from fill k rest) = ap (filled_from fill column) (next_word xs at s e start within end) ∙ line in
    let cut : filled_from fill wide rest ≡ filled_from fill k rest = ap (λ n. filled_from fill n rest) is ∙ filled_cut fill k rest in
    ap (λ o. o ++ filled_from fill wide rest) put ∙ (ap (λ o. (out ++ (10 ∷ w)) ++ o) cut ∙ (append_assoc out (10 ∷ w) (filled_from fill k rest) ∙ (sym (ap (λ o. out ++ o) next) ∙ before)))

pub filled_end : (fill column at : ℕ) (xs out all : List ℕ) → text_words (drop at xs) ≡ [] → out ++ filled_from fill column (text_words (drop at xs)) ≡ all → out ≡ all
filled_end fill column at xs out all none before = sym (append-nil out) ∙ (sym (ap (λ ws. out ++ filled_from fill column ws) none) ∙ before)
