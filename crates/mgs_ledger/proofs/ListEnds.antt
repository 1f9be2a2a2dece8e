-- What two lists have in common, from the first entry on and up to the last.
use Rattle.std.proofs.Common.{◌≡◌, ◌∙◌, ℕ, zero, suc, ◌+◌, ◌-◌, ◌<◌, ◌≤◌, Bool, true, false, List, [], ◌∷◌, length, drop, refl, sym, ap, arith}
use Rattle.std.specs.Prelude.{cond}
use Rattle.std.proofs.lemmas.List.{drop_all}
use Rattle.mgs_model.specs.declared.entry.Entry.{Entry}
use Rattle.mgs_ledger.specs.ListChanges.{are_alike, common_end, common_start, last_entries}

none_in_common : (xs : List Entry) → common_start xs [] ≡ 0
none_in_common [] = refl
none_in_common (x ∷ xs) = refl

-- one list is at its end
pub at_end : (old new : List Entry) (i all : ℕ) → length new ≤ i → common_start (drop i old) (drop i new) + i ≡ all → i ≡ all
at_end old new i all past e =
    let none : common_start (drop i old) (drop i new) ≡ 0 = ap (common_start (drop i old)) (drop_all i new past) ∙ none_in_common (drop i old) in
    omega arith

-- so many entries are alike up to the last, or fewer
end_step : (k : ℕ) (xs ys : List Entry) → 0 < k → common_end k xs ys ≡ cond (are_alike (last_entries k xs) (last_entries k ys)) k (common_end (k - 1) xs ys)
end_step zero xs ys some = absurd (omega arith)
end_step (suc k) xs ys some =
    let fewer : k ≡ suc k - 1 = omega arith in
    ap (λ n. cond (are_alike (last_entries (suc k) xs) (last_entries (suc k) ys)) (suc k) (common_end n xs ys)) fewer

pub end_found : (k all : ℕ) (xs ys : List Entry) (is : Bool) → 0 < k → is ≡ are_alike (last_entries k xs) (last_entries k ys) → is ≡ true → common_end k xs ys ≡ all → k ≡ all
end_found k all xs ys is some same e left = sym (end_step k xs ys some ∙ ap (λ b. cond b k (common_end (k - 1) xs ys)) (sym same ∙ e)) ∙ left

pub end_passed : (k all : ℕ) (xs ys : List Entry) (is : Bool) → 0 < k → is ≡ are_alike (last_entries k xs) (last_entries k ys) → is ≡ false → common_end k xs ys ≡ all → common_end (k - 1) xs ys ≡ all
end_passed k all xs ys is some same e left = sym (end_step k xs ys some ∙ ap (λ b. cond b k (common_end (k - 1) xs ys)) (sym same ∙ e)) ∙ left
