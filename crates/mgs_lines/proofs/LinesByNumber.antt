-- The lines of a text by their numbers, and walks over lines that are blank or not.
use Rattle.std.proofs.Common.{◌≡◌, ℕ, zero, suc, ◌+◌, ◌-◌, ◌<◌, ◌≤◌, Bool, true, false, cond, not, ◌&&◌, ◌⊎◌, List, [], ◌∷◌, length, take, drop, get_or, refl, sym, ap, ◌∙◌, arith, inl, inr, eq-eqb}
use Rattle.std.specs.Prelude.{slice_range}
use Rattle.std.specs.List.{count_by, position_or_len, onto_first}
use Rattle.std.proofs.lemmas.List.{take_all}
use Rattle.std.proofs.lemmas.List.Sums.{sum_by-cons, count_by_more_no}
use Rattle.std.proofs.lemmas.List.Splits.{length-slice_split, slice_split-cons_yes, slice_split-cons_no}
use Rattle.std.proofs.lemmas.Bool.{ne_eqb, cases_eq, cases_lt, cases_Bool}
use Rattle.mgs_model.specs.Lines.{is_feed, line_of, line_start, line_end, start_of}
use Rattle.mgs_model.specs.Walks.{over, back, lines, is_white, is_blank, is_written, lines_before, forward_paragraph, backward_paragraph}
use Rattle.mgs_lines.proofs.Walks.{line_start_here, lines_within, line_of-start_of}
use Rattle.mgs_lines.proofs.Steps.{over_yes, over_no, over_end, back_yes, back_no, back_stops}
use Rattle.mgs_lines.proofs.Feeds.{start_of_past, start_of_le, start_of_mono, line_start_again, start_of_line, line_of_start, line_of_end, line_of_next, line_of_above, rest_of_line}

-- THE LINE OF A NUMBER

pub some_line : (xs : List ℕ) → 0 < length (lines xs)
some_line xs = omega (arith, length-slice_split is_feed xs)

onto_first_head : (c : ℕ) (ls : List (List ℕ)) → 0 < length ls → get_or (onto_first c ls) 0 [] ≡ c ∷ get_or ls 0 []
onto_first_head c [] some = absurd (omega arith)
onto_first_head c (l ∷ ls) some = refl

onto_first_tail : (c k : ℕ) (ls : List (List ℕ)) → 0 < length ls → get_or (onto_first c ls) (suc k) [] ≡ get_or ls (suc k) []
onto_first_tail c k [] some = absurd (omega arith)
onto_first_tail c k (l ∷ ls) some = refl

pub first_line : (xs : List ℕ) → get_or (lines xs) 0 [] ≡ take (position_or_len is_feed xs) xs
first_line [] = refl
first_line (c ∷ cs) =
    elim (cases_eq c 10) [
      | inl e ↦ rw (eq-eqb c 10 e) refl
      | inr n ↦
          let cut : lines (c ∷ cs) ≡ onto_first c (lines cs) = slice_split-cons_no is_feed c cs (ne_eqb c 10 n) in
          let more : position_or_len is_feed (c ∷ cs) ≡ suc (position_or_len is_feed cs) = rw (ne_eqb c 10 n) (omega arith) in
          ap (λ ls. get_or ls 0 []) cut ∙ (onto_first_head c (lines cs) (some_line cs) ∙ (ap (λ l. c ∷ l) (first_line cs) ∙ sym (ap (λ k. take k (c ∷ cs)) more)))
    ]

pub line_at : (k : ℕ) (xs : List ℕ) → k ≤ count_by is_feed xs → get_or (lines xs) k [] ≡ take (position_or_len is_feed (drop (start_of k xs) xs)) (drop (start_of k xs) xs)
line_at zero xs there = first_line xs
line_at (suc k) [] there = absurd (omega arith)
line_at (suc k) (c ∷ cs) there =
    elim (cases_eq c 10) [
      | inl e ↦
          let more : count_by is_feed (c ∷ cs) ≡ 1 + count_by is_feed cs = sum_by-cons (λ y. cond (is_feed y) 1 0) c cs ∙ rw (eq-eqb c 10 e) refl in
          let cut : lines (c ∷ cs) ≡ [] ∷ lines cs = slice_split-cons_yes is_feed c cs (eq-eqb c 10 e) in
          let start : start_of (suc k) (c ∷ cs) ≡ suc (start_of k cs) = rw (eq-eqb c 10 e) (omega arith) in
          ap (λ ls. get_or ls (suc k) []) cut ∙ (line_at k cs (omega arith) ∙ sym (ap (λ s. take (position_or_len is_feed (drop s (c ∷ cs))) (drop s (c ∷ cs))) start))
      | inr n ↦
          let same : count_by is_feed (c ∷ cs) ≡ count_by is_feed cs = sum_by-cons (λ y. cond (is_feed y) 1 0) c cs ∙ rw (ne_eqb c 10 n) (omega arith) in
          let cut : lines (c ∷ cs) ≡ onto_first c (lines cs) = slice_split-cons_no is_feed c cs (ne_eqb c 10 n) in
          let start : start_of (suc k) (c ∷ cs) ≡ suc (start_of (suc k) cs) = rw (ne_eqb c 10 n) (omega arith) in
          ap (λ ls. get_or ls (suc k) []) cut ∙ (onto_first_tail c k (lines cs) (some_line cs) ∙ (line_at (suc k) cs (omega arith) ∙ sym (ap (λ s. take (position_or_len is_feed (drop s (c ∷ cs))) (drop s (c ∷ cs))) start)))
    ]

-- the line that starts at a place
pub line_here : (xs : List ℕ) (s : ℕ) → s ≤ length xs → line_start xs s ≡ s → get_or (lines xs) (line_of xs s) [] ≡ slice_range xs s (line_end xs s)
line_here xs s within start =
    let there : start_of (line_of xs s) xs ≡ s = start_of_line xs s within ∙ start in
    let wide : line_end xs s - s ≡ position_or_len is_feed (drop s xs) = omega arith in
    line_at (line_of xs s) xs (lines_within xs s) ∙ (ap (λ t. take (position_or_len is_feed (drop t xs)) (drop t xs)) there ∙ ap (λ k. take k (drop s xs)) (sym wide))

pub is_line : (xs : List ℕ) (p : ℕ) → line_of xs p < length (lines xs)
is_line xs p = omega (arith, length-slice_split is_feed xs, lines_within xs p)

-- DOWN OVER LINES THAT PASS

-- the line that starts here passes, and is not the last
pub below_next : (f : List ℕ → Bool) (xs : List ℕ) (s : ℕ) → s ≤ length xs → line_start xs s ≡ s → f (slice_range xs s (line_end xs s)) ≡ true → line_end xs s < length xs
    → over f (lines xs) (line_of xs (line_end xs s + 1)) ≡ over f (lines xs) (line_of xs s)
below_next f xs s within start passes inside =
    ap (over f (lines xs)) (line_of_next xs s inside) ∙ over_yes f (lines xs) (line_of xs s) [] (is_line xs s) (ap f (line_here xs s within start) ∙ passes)

-- it passes, and is the last
pub below_last : (f : List ℕ → Bool) (xs : List ℕ) (s : ℕ) → s ≤ length xs → line_start xs s ≡ s → f (slice_range xs s (line_end xs s)) ≡ true → line_end xs s ≡ length xs
    → start_of (over f (lines xs) (line_of xs s)) xs ≡ length xs
below_last f xs s within start passes last =
    let k : ℕ = line_of xs s in
    let all : count_by is_feed xs ≡ k = sym (ap (λ t. count_by is_feed t) (take_all (length xs) xs (omega arith))) ∙ (ap (line_of xs) (sym last) ∙ line_of_end xs s) in
    let past : over f (lines xs) k ≡ k + 1 = sym (over_yes f (lines xs) k [] (is_line xs s) (ap f (line_here xs s within start) ∙ passes)) ∙ over_end f (lines xs) (k + 1) (omega (arith, all, length-slice_split is_feed xs)) in
    ap (λ n. start_of n xs) past ∙ start_of_past (k + 1) xs (omega (arith, all))

-- it does not pass
pub below_here : (f : List ℕ → Bool) (xs : List ℕ) (s : ℕ) → s ≤ length xs → line_start xs s ≡ s → f (slice_range xs s (line_end xs s)) ≡ false
    → start_of (over f (lines xs) (line_of xs s)) xs ≡ s
below_here f xs s within start fails =
    ap (λ n. start_of n xs) (over_no f (lines xs) (line_of xs s) [] (is_line xs s) (ap f (line_here xs s within start) ∙ fails)) ∙ (start_of_line xs s within ∙ start)

-- UP OVER LINES THAT PASS

-- the line that starts here passes
pub above_next : (f : List ℕ → Bool) (xs : List ℕ) (s : ℕ) → s ≤ length xs → line_start xs s ≡ s → f (slice_range xs s (line_end xs s)) ≡ true
    → back f (lines xs) (line_of xs s + 1) ≡ back f (lines xs) (line_of xs s)
above_next f xs s within start passes =
    let k : ℕ = line_of xs s in
    let same : k + 1 - 1 ≡ k = omega arith in
    sym (back_yes f (lines xs) (k + 1) [] (omega arith) (omega (arith, is_line xs s)) (ap (λ i. f (get_or (lines xs) i [])) same ∙ (ap f (line_here xs s within start) ∙ passes))) ∙ ap (back f (lines xs)) same

-- it does not pass
pub above_here : (f : List ℕ → Bool) (xs : List ℕ) (s : ℕ) → s ≤ length xs → line_start xs s ≡ s → f (slice_range xs s (line_end xs s)) ≡ false
    → back f (lines xs) (line_of xs s + 1) ≡ line_of xs s + 1
above_here f xs s within start fails =
    let k : ℕ = line_of xs s in
    let same : k + 1 - 1 ≡ k = omega arith in
    back_no f (lines xs) (k + 1) [] (omega arith) (omega (arith, is_line xs s)) (ap (λ i. f (get_or (lines xs) i [])) same ∙ (ap f (line_here xs s within start) ∙ fails))

-- the line above a line's start, by its number
pub above_of : (xs : List ℕ) (s : ℕ) → 0 < s → s ≤ length xs → line_start xs s ≡ s → line_of xs (line_start xs (s - 1)) + 1 ≡ line_of xs s
above_of xs s some within start = omega (arith, line_of_above xs s some within start, line_of_start xs (s - 1) (omega arith))

-- the line above a line's start, in a walk up
pub written_above : (xs : List ℕ) (s : ℕ) → 0 < s → s ≤ length xs → line_start xs s ≡ s → is_blank (slice_range xs (line_start xs (s - 1)) (line_end xs (line_start xs (s - 1)))) ≡ false
    → back is_written (lines xs) (line_of xs (line_start xs (s - 1))) ≡ back is_written (lines xs) (line_of xs s)
written_above xs s some within start blank =
    let t : ℕ = line_start xs (s - 1) in
    sym (above_next is_written xs t (omega arith) (line_start_again xs (s - 1) (omega arith)) (ap not blank)) ∙ ap (back is_written (lines xs)) (above_of xs s some within start)

pub blank_above : (xs : List ℕ) (s : ℕ) → 0 < s → s ≤ length xs → line_start xs s ≡ s → is_blank (slice_range xs (line_start xs (s - 1)) (line_end xs (line_start xs (s - 1)))) ≡ true
    → start_of (back is_written (lines xs) (line_of xs s)) xs ≡ s
blank_above xs s some within start blank =
    let t : ℕ = line_start xs (s - 1) in
    let up : line_of xs t + 1 ≡ line_of xs s = above_of xs s some within start in
    let here = above_here is_written xs t (omega arith) (line_start_again xs (s - 1) (omega arith)) (ap not blank) in
    ap (λ n. start_of n xs) (ap (back is_written (lines xs)) (sym up) ∙ (here ∙ up)) ∙ (start_of_line xs s within ∙ start)

-- A BLANK LINE, character by character

pub blank_more : (xs : List ℕ) (i c : ℕ) → i < length xs → c ≡ get_or xs i 0 → (c ≡ 10 → ⊥) → (c ≡ 32) ⊎ (c ≡ 9) → is_blank (slice_range xs i (line_end xs i)) ≡ is_blank (slice_range xs (i + 1) (line_end xs (i + 1)))
blank_more xs i c within here other white =
    let rest : List ℕ = slice_range xs (i + 1) (line_end xs (i + 1)) in
    let cut : slice_range xs i (line_end xs i) ≡ c ∷ rest = rest_of_line xs i within (λ e. other (here ∙ e)) ∙ ap (λ d. d ∷ rest) (sym here) in
    let yes_white : is_white c ≡ true = elim white [ inl e ↦ rw e refl | inr e ↦ rw e refl ] in
    ap is_blank cut ∙ ap (λ b. b && is_blank rest) yes_white

pub blank_not : (xs : List ℕ) (i c : ℕ) → i < length xs → c ≡ get_or xs i 0 → (c ≡ 10 → ⊥) → (c ≡ 32 → ⊥) → (c ≡ 9 → ⊥) → is_blank (slice_range xs i (line_end xs i)) ≡ false
blank_not xs i c within here other space tab =
    let rest : List ℕ = slice_range xs (i + 1) (line_end xs (i + 1)) in
    let cut : slice_range xs i (line_end xs i) ≡ c ∷ rest = rest_of_line xs i within (λ e. other (here ∙ e)) ∙ ap (λ d. d ∷ rest) (sym here) in
    let no_white : is_white c ≡ false = rw (ne_eqb c 32 space, ne_eqb c 9 tab) refl in
    ap is_blank cut ∙ ap (λ b. b && is_blank rest) no_white

-- PARAGRAPHS

pub start_of_there : (k : ℕ) (xs : List ℕ) → k ≤ count_by is_feed xs → line_start xs (start_of k xs) ≡ start_of k xs
start_of_there k xs there = sym (start_of_line xs (start_of k xs) (start_of_le k xs)) ∙ ap (λ n. start_of n xs) (line_of-start_of k xs there)

-- a line that starts before the text's end is there
pub is_there : (k : ℕ) (xs : List ℕ) → start_of k xs < length xs → k ≤ count_by is_feed xs
is_there k xs before =
    elim (cases_lt (count_by is_feed xs) k) [
      | inl past ↦ absurd (omega (arith, start_of_past k xs past))
      | inr there ↦ there
    ]

pub start_below : (xs : List ℕ) (s r : ℕ) → r ≡ start_of (over is_blank (lines xs) (line_of xs s)) xs → r < length xs → line_start xs r ≡ r
start_below xs s r down before =
    let k : ℕ = over is_blank (lines xs) (line_of xs s) in
    rw down (start_of_there k xs (is_there k xs (omega arith)))

-- the blank lines go on to the text's end
pub paragraph_past : (xs : List ℕ) (p s r : ℕ) → p ≤ length xs → s ≡ line_start xs p → r ≡ start_of (over is_blank (lines xs) (line_of xs s)) xs → r ≡ length xs → r ≡ forward_paragraph xs p
paragraph_past xs p s r within start down past =
    let same : line_of xs s ≡ line_of xs p = ap (line_of xs) start ∙ line_of_start xs p within in
    let k : ℕ = over is_blank (lines xs) (line_of xs p) in
    let there : start_of k xs ≡ length xs = ap (λ n. start_of (over is_blank (lines xs) n) xs) (sym same) ∙ (sym down ∙ past) in
    omega (arith, there, start_of_mono k (over is_written (lines xs) k) xs (omega arith), start_of_le (over is_written (lines xs) k) xs)

pub paragraph_there : (xs : List ℕ) (p s r : ℕ) → p ≤ length xs → s ≡ line_start xs p → r ≡ start_of (over is_blank (lines xs) (line_of xs s)) xs → r < length xs
    → start_of (over is_written (lines xs) (line_of xs r)) xs ≡ forward_paragraph xs p
paragraph_there xs p s r within start down before =
    let same : line_of xs s ≡ line_of xs p = ap (line_of xs) start ∙ line_of_start xs p within in
    let k : ℕ = over is_blank (lines xs) (line_of xs s) in
    let number : line_of xs r ≡ k = ap (line_of xs) down ∙ line_of-start_of k xs (is_there k xs (omega arith)) in
    ap (λ n. start_of (over is_written (lines xs) n) xs) (number ∙ ap (over is_blank (lines xs)) same)

-- how many lines begin before a place, by the character before it
pub lines_before_is : (xs : List ℕ) (p : ℕ) → 0 < p → p ≤ length xs → lines_before xs p ≡ line_of xs (p - 1) + 1
lines_before_is xs p some within =
    let more : p ≡ p - 1 + 1 = omega arith in
    elim (cases_eq (line_start xs p) p) [
      | inl e ↦ rw (eq-eqb (line_start xs p) p e) (line_of_above xs p some within e)
      | inr n ↦
          let other : get_or xs (p - 1) 0 ≡ 10 → ⊥ = λ feed. n (line_start_here xs p some within (ap not (eq-eqb (get_or xs (p - 1) 0) 10 feed))) in
          let same : line_of xs p ≡ line_of xs (p - 1) = ap (line_of xs) more ∙ count_by_more_no is_feed xs (p - 1) 0 (omega arith) (ne_eqb (get_or xs (p - 1) 0) 10 other) in
          rw (ne_eqb (line_start xs p) p n) (ap (λ n. n + 1) same)
    ]

-- so many lines are left above the blank ones
abbrev left : List ℕ → ℕ → ℕ
left xs p = back is_blank (lines xs) (lines_before xs p)

left_is : (xs : List ℕ) (p s r : ℕ) → 0 < p → p ≤ length xs → s ≡ line_start xs (p - 1) → r ≡ start_of (back is_blank (lines xs) (line_of xs s + 1) - 1) xs → r ≡ start_of (left xs p - 1) xs
left_is xs p s r some within start up =
    let same : line_of xs s + 1 ≡ lines_before xs p = ap (λ t. line_of xs t + 1) start ∙ (ap (λ n. n + 1) (line_of_start xs (p - 1) (omega arith)) ∙ sym (lines_before_is xs p some within)) in
    up ∙ ap (λ n. start_of (back is_blank (lines xs) n - 1) xs) same

few_left : (xs : List ℕ) (p : ℕ) → 0 < p → p ≤ length xs → left xs p ≤ count_by is_feed xs + 1
few_left xs p some within = omega (arith, lines_before_is xs p some within, lines_within xs (p - 1))

pub start_above : (xs : List ℕ) (p s r : ℕ) → 0 < p → p ≤ length xs → s ≡ line_start xs (p - 1) → r ≡ start_of (back is_blank (lines xs) (line_of xs s + 1) - 1) xs → line_start xs r ≡ r
start_above xs p s r some within start up =
    rw (left_is xs p s r some within start up) (start_of_there (left xs p - 1) xs (omega (arith, few_left xs p some within)))

pub paragraph_above : (xs : List ℕ) (p s r : ℕ) → 0 < p → p ≤ length xs → s ≡ line_start xs (p - 1) → r ≡ start_of (back is_blank (lines xs) (line_of xs s + 1) - 1) xs
    → start_of (back is_written (lines xs) (line_of xs r)) xs ≡ backward_paragraph xs p
paragraph_above xs p s r some within start up =
    let j : ℕ = left xs p in
    let few : j ≤ length (lines xs) = omega (arith, few_left xs p some within, length-slice_split is_feed xs) in
    let number : line_of xs r ≡ j - 1 = ap (line_of xs) (left_is xs p s r some within start up) ∙ line_of-start_of (j - 1) xs (omega (arith, few_left xs p some within)) in
    let same : back is_written (lines xs) (j - 1) ≡ back is_written (lines xs) j =
    elim (cases_lt 0 j) [
      | inl more ↦
          let stops : is_blank (get_or (lines xs) (j - 1) []) ≡ false = back_stops is_blank (lines xs) (lines_before xs p) [] (omega (arith, lines_before_is xs p some within, lines_within xs (p - 1), length-slice_split is_feed xs)) more in
          back_yes is_written (lines xs) j [] more few (ap not stops)
      | inr none ↦ let zero_left : j - 1 ≡ j = omega arith in ap (back is_written (lines xs)) zero_left
    ]
    in ap (λ n. start_of (back is_written (lines xs) n) xs) number ∙ ap (λ n. start_of n xs) same

-- at the text's end no paragraph is left
pub forward_paragraph-end : (xs : List ℕ) (p : ℕ) → p ≡ length xs → forward_paragraph xs p ≡ p
forward_paragraph-end xs p at_end =
    let k : ℕ = line_of xs p in
    let ls : List (List ℕ) = lines xs in
    let all : count_by is_feed xs ≡ k = sym (ap (λ t. count_by is_feed t) (take_all p xs (omega arith))) in
    let last : k + 1 ≡ length ls = omega (arith, all, length-slice_split is_feed xs) in
    let past : start_of (k + 1) xs ≡ length xs = start_of_past (k + 1) xs (omega (arith, all)) in
    elim (cases_Bool (is_blank (get_or ls k []))) [
      | inl blank ↦
          let down : over is_blank ls k ≡ k + 1 = sym (over_yes is_blank ls k [] (omega arith) blank) ∙ over_end is_blank ls (k + 1) (omega arith) in
          ap (λ n. start_of (over is_written ls n) xs) down ∙ (ap (λ n. start_of n xs) (over_end is_written ls (k + 1) (omega arith)) ∙ (past ∙ sym at_end))
      | inr written ↦
          let down : over is_written ls k ≡ k + 1 = sym (over_yes is_written ls k [] (omega arith) (ap not written)) ∙ over_end is_written ls (k + 1) (omega arith) in
          ap (λ n. start_of (over is_written ls n) xs) (over_no is_blank ls k [] (omega arith) written) ∙ (ap (λ n. start_of n xs) down ∙ (past ∙ sym at_end))
    ]

-- nor before the text's start
pub backward_paragraph-start : (xs : List ℕ) (p : ℕ) → p ≡ 0 → backward_paragraph xs p ≡ p
backward_paragraph-start xs p start = rw start refl
