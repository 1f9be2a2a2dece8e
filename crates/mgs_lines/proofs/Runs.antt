-- Ends of lines, and runs of lines that pass a test.
use Rattle.std.proofs.Common.{◌≡◌, ℕ, zero, suc, ◌+◌, ◌-◌, ◌<◌, ◌≤◌, Bool, true, false, not, List, [], length, drop, get_or, refl, sym, ap, ◌∙◌, arith, inl, inr, eq-eqb}
use Rattle.std.proofs.lemmas.List.{drop_more, drop_all, take_all}
use Rattle.std.proofs.lemmas.List.Splits.{length-slice_split}
use Rattle.std.specs.Prelude.{slice_range}
use Rattle.std.specs.List.{count_by, position_or_len}
use Rattle.std.proofs.lemmas.Bool.{ne_eqb, cases_eq, cases_lt}
use Rattle.mgs_model.specs.Lines.{is_feed, is_within, line_of, line_start, line_end, start_of}
use Rattle.mgs_model.specs.Walks.{over, back, lines}
use Rattle.mgs_lines.proofs.Walks.{line_start_back, line_start_here}
use Rattle.mgs_lines.proofs.Steps.{over_yes, over_no, over_end}
use Rattle.mgs_lines.proofs.Feeds.{feed_at_end, line_start_again, start_of_line, line_of_end, line_of_next, line_start_next}
use Rattle.mgs_lines.proofs.LinesByNumber.{line_here, is_line, above_next, above_here, above_of}

-- ENDS

line_end_feed : (xs : List ℕ) (e : ℕ) → e < length xs → get_or xs e 0 ≡ 10 → line_end xs e ≡ e
line_end_feed xs e within feed =
    let none : position_or_len is_feed (drop e xs) ≡ 0 = ap (position_or_len is_feed) (drop_more xs e 0 within) ∙ rw (eq-eqb (get_or xs e 0) 10 feed) refl in
    omega (arith, none)

line_end_past : (xs : List ℕ) (e : ℕ) → length xs ≤ e → line_end xs e ≡ e
line_end_past xs e past =
    let none : position_or_len is_feed (drop e xs) ≡ 0 = ap (position_or_len is_feed) (drop_all e xs past) in
    omega (arith, none)

-- a line's end is in that line
pub line_end_again : (xs : List ℕ) (p : ℕ) → line_end xs (line_end xs p) ≡ line_end xs p
line_end_again xs p =
    elim (cases_lt (line_end xs p) (length xs)) [
      | inl within ↦ line_end_feed xs (line_end xs p) within (feed_at_end xs p within)
      | inr past ↦ line_end_past xs (line_end xs p) past
    ]

line_end_next : (xs : List ℕ) (q : ℕ) → q < length xs → (get_or xs q 0 ≡ 10 → ⊥) → line_end xs q ≡ line_end xs (suc q)
line_end_next xs q within other =
    let more : q + 1 ≡ suc q = omega arith in
    let step : position_or_len is_feed (drop q xs) ≡ suc (position_or_len is_feed (drop (q + 1) xs)) = ap (position_or_len is_feed) (drop_more xs q 0 within) ∙ rw (ne_eqb (get_or xs q 0) 10 other) (omega arith) in
    let same : line_end xs q ≡ line_end xs (q + 1) = omega (arith, step) in
    same ∙ ap (line_end xs) more

-- a line ends where its start's does
pub line_end_of_start : (xs : List ℕ) (p : ℕ) → p ≤ length xs → line_end xs (line_start xs p) ≡ line_end xs p
line_end_of_start xs zero within = refl
line_end_of_start xs (suc q) within =
    let back : suc q - 1 ≡ q = omega arith in
    elim (cases_eq (get_or xs q 0) 10) [
      | inl e ↦
          let feed : is_within (get_or xs (suc q - 1) 0) ≡ false = ap (λ k. is_within (get_or xs k 0)) back ∙ ap not (eq-eqb (get_or xs q 0) 10 e) in
          ap (line_end xs) (line_start_here xs (suc q) (omega arith) within feed)
      | inr n ↦
          let same : is_within (get_or xs (suc q - 1) 0) ≡ true = ap (λ k. is_within (get_or xs k 0)) back ∙ ap not (ne_eqb (get_or xs q 0) 10 n) in
          let start : line_start xs (suc q) ≡ line_start xs q = sym (ap (line_start xs) (sym back) ∙ line_start_back xs (suc q) (omega arith) within same) in
          ap (line_end xs) start ∙ (line_end_of_start xs q (omega arith) ∙ line_end_next xs q (omega arith) n)
    ]

-- UP OVER LINES

-- the line above a line's start passes
pub run_above : (f : List ℕ → Bool) (xs : List ℕ) (s : ℕ) → 0 < s → s ≤ length xs → line_start xs s ≡ s → f (slice_range xs (line_start xs (s - 1)) (line_end xs (line_start xs (s - 1)))) ≡ true
    → back f (lines xs) (line_of xs (line_start xs (s - 1))) ≡ back f (lines xs) (line_of xs s)
run_above f xs s some within start passes =
    let t : ℕ = line_start xs (s - 1) in
    sym (above_next f xs t (omega arith) (line_start_again xs (s - 1) (omega arith)) passes) ∙ ap (back f (lines xs)) (above_of xs s some within start)

-- it does not pass
pub run_starts : (f : List ℕ → Bool) (xs : List ℕ) (s : ℕ) → 0 < s → s ≤ length xs → line_start xs s ≡ s → f (slice_range xs (line_start xs (s - 1)) (line_end xs (line_start xs (s - 1)))) ≡ false
    → start_of (back f (lines xs) (line_of xs s)) xs ≡ s
run_starts f xs s some within start fails =
    let t : ℕ = line_start xs (s - 1) in
    let up : line_of xs t + 1 ≡ line_of xs s = above_of xs s some within start in
    let here = above_here f xs t (omega arith) (line_start_again xs (s - 1) (omega arith)) fails in
    ap (λ n. start_of n xs) (ap (back f (lines xs)) (sym up) ∙ (here ∙ up)) ∙ (start_of_line xs s within ∙ start)

-- DOWN OVER LINES

next_line : (xs : List ℕ) (e : ℕ) → line_end xs e ≡ e → e < length xs → line_of xs (e + 1) ≡ line_of xs e + 1
next_line xs e at_end inside = ap (λ q. line_of xs (q + 1)) (sym at_end) ∙ line_of_next xs e (omega arith)

next_start : (xs : List ℕ) (e : ℕ) → line_end xs e ≡ e → e < length xs → line_start xs (e + 1) ≡ e + 1
next_start xs e at_end inside = ap (λ q. line_start xs (q + 1)) (sym at_end) ∙ (line_start_next xs e (omega arith) ∙ ap (λ q. q + 1) at_end)

-- the line below a line's end passes
pub run_below : (f : List ℕ → Bool) (xs : List ℕ) (e : ℕ) → line_end xs e ≡ e → e < length xs → f (slice_range xs (e + 1) (line_end xs (e + 1))) ≡ true
    → over f (lines xs) (line_of xs (line_end xs (e + 1)) + 1) ≡ over f (lines xs) (line_of xs e + 1)
run_below f xs e at_end inside passes =
    let s : ℕ = e + 1 in
    let here = line_here xs s (omega arith) (next_start xs e at_end inside) in
    ap (λ k. over f (lines xs) (k + 1)) (line_of_end xs s) ∙ (over_yes f (lines xs) (line_of xs s) [] (is_line xs s) (ap f here ∙ passes) ∙ ap (over f (lines xs)) (next_line xs e at_end inside))

-- the run ends in the line that ends here
ends_here : (xs : List ℕ) (e n : ℕ) → e ≤ length xs → line_end xs e ≡ e → n ≡ line_of xs e + 1 → line_end xs (start_of (n - 1) xs) ≡ e
ends_here xs e n within at_end number =
    let same : n - 1 ≡ line_of xs e = omega arith in
    ap (λ k. line_end xs (start_of k xs)) same ∙ (ap (line_end xs) (start_of_line xs e within) ∙ (line_end_of_start xs e within ∙ at_end))

-- it does not pass
pub run_ends : (f : List ℕ → Bool) (xs : List ℕ) (e : ℕ) → line_end xs e ≡ e → e < length xs → f (slice_range xs (e + 1) (line_end xs (e + 1))) ≡ false
    → line_end xs (start_of (over f (lines xs) (line_of xs e + 1) - 1) xs) ≡ e
run_ends f xs e at_end inside fails =
    let s : ℕ = e + 1 in
    let here = line_here xs s (omega arith) (next_start xs e at_end inside) in
    let next : line_of xs s ≡ line_of xs e + 1 = next_line xs e at_end inside in
    let stops : over f (lines xs) (line_of xs s) ≡ line_of xs s = over_no f (lines xs) (line_of xs s) [] (is_line xs s) (ap f here ∙ fails) in
    ends_here xs e (over f (lines xs) (line_of xs e + 1)) (omega arith) at_end (ap (over f (lines xs)) (sym next) ∙ (stops ∙ next))

last_line : (xs : List ℕ) (e : ℕ) → e ≡ length xs → length (lines xs) ≤ line_of xs e + 1
last_line xs e last =
    let all : count_by is_feed xs ≡ line_of xs e = sym (ap (λ t. count_by is_feed t) (take_all e xs (omega arith))) in
    omega (arith, all, length-slice_split is_feed xs)

-- there is none
pub run_ends_last : (f : List ℕ → Bool) (xs : List ℕ) (e : ℕ) → line_end xs e ≡ e → e ≡ length xs → line_end xs (start_of (over f (lines xs) (line_of xs e + 1) - 1) xs) ≡ e
run_ends_last f xs e at_end last =
    ends_here xs e (over f (lines xs) (line_of xs e + 1)) (omega arith) at_end (over_end f (lines xs) (line_of xs e + 1) (omega (arith, last_line xs e last)))
