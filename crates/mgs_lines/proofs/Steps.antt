-- One step of a walk over characters that pass a test, and of a walk that is done so many times.
use Rattle.std.proofs.Common.{◌≡◌, ℕ, zero, suc, Bool, true, false, ◌+◌, ◌-◌, ◌<◌, ◌≤◌, List, length, get_or, refl, sym, ap, ◌∙◌, arith, inl, inr}
use Rattle.std.proofs.lemmas.Bool.{cases_Bool}
use Rattle.std.specs.Fn.{iterate}
use Rattle.std.proofs.lemmas.List.Sums.{prefix_len-drop_yes, prefix_len-drop_no, prefix_len-drop_all, suffix_len-take_yes, suffix_len-take_no}
use Rattle.mgs_model.specs.Walks.{over, back, is_word, is_gap, forward_word, backward_word}

-- over one that passes
pub over_yes : {A : Type 0} (f : A → Bool) (xs : List A) (i : ℕ) (d : A) → i < length xs → f (get_or xs i d) ≡ true → over f xs (i + 1) ≡ over f xs i
over_yes f xs i d within passes = omega (arith, prefix_len-drop_yes f xs i d within passes)

pub over_no : {A : Type 0} (f : A → Bool) (xs : List A) (i : ℕ) (d : A) → i < length xs → f (get_or xs i d) ≡ false → over f xs i ≡ i
over_no f xs i d within fails = omega (arith, prefix_len-drop_no f xs i d within fails)

pub over_end : {A : Type 0} (f : A → Bool) (xs : List A) (i : ℕ) → length xs ≤ i → over f xs i ≡ i
over_end f xs i past = omega (arith, prefix_len-drop_all f xs i past)

-- back over one that passes
pub back_yes : {A : Type 0} (f : A → Bool) (xs : List A) (i : ℕ) (d : A) → 0 < i → i ≤ length xs → f (get_or xs (i - 1) d) ≡ true → back f xs (i - 1) ≡ back f xs i
back_yes f xs i d some within passes = omega (arith, suffix_len-take_yes f xs i d some within passes)

pub back_no : {A : Type 0} (f : A → Bool) (xs : List A) (i : ℕ) (d : A) → 0 < i → i ≤ length xs → f (get_or xs (i - 1) d) ≡ false → back f xs i ≡ i
back_no f xs i d some within fails = omega (arith, suffix_len-take_no f xs i d some within fails)

-- what a walk back stops at does not pass
pub back_stops : {A : Type 0} (f : A → Bool) (xs : List A) (k : ℕ) (d : A) → k ≤ length xs → 0 < back f xs k → f (get_or xs (back f xs k - 1) d) ≡ false
back_stops f xs zero d within some = absurd (omega arith)
back_stops f xs (suc k) d within some =
    let last : suc k - 1 ≡ k = omega arith in
    elim (cases_Bool (f (get_or xs k d))) [
      | inl e ↦
          let same : back f xs (suc k) ≡ back f xs k = sym (back_yes f xs (suc k) d (omega arith) within (ap (λ i. f (get_or xs i d)) last ∙ e)) ∙ ap (back f xs) last in
          ap (λ i. f (get_or xs (i - 1) d)) same ∙ back_stops f xs k d (omega arith) (omega (arith, same))
      | inr e ↦
          let here : back f xs (suc k) ≡ suc k = back_no f xs (suc k) d (omega arith) within (ap (λ i. f (get_or xs i d)) last ∙ e) in
          ap (λ i. f (get_or xs (i - 1) d)) here ∙ (ap (λ i. f (get_or xs i d)) last ∙ e)
    ]

-- once of the times that are left
pub iterate_next : (f : ℕ → ℕ) (n i x : ℕ) → i < n → iterate f (n - i) x ≡ iterate f (n - (i + 1)) (f x)
iterate_next f n i x more =
    let e : n - i ≡ suc (n - (i + 1)) = omega arith in
    rw e refl

-- where it stands still, it stays
pub iterate_still : (f : ℕ → ℕ) (n x : ℕ) → f x ≡ x → iterate f n x ≡ x
iterate_still f zero x still = refl
iterate_still f (suc n) x still = ap (iterate f n) still ∙ iterate_still f n x still

-- at the text's end no word is left
pub forward_word-end : (xs : List ℕ) (p : ℕ) → length xs ≤ p → forward_word xs p ≡ p
forward_word-end xs p past = ap (over is_word xs) (over_end is_gap xs p past) ∙ over_end is_word xs p past

-- nor before the text's start
pub backward_word-start : (xs : List ℕ) (p : ℕ) → p ≡ 0 → backward_word xs p ≡ p
backward_word-start xs p start = rw start refl
