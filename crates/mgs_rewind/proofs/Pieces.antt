-- The entries of a list's text, one after another.
use Rattle.std.proofs.Common.{◌≡◌, ◌∙◌, ℕ, suc, ◌+◌, ◌-◌, ◌<◌, ◌≤◌, true, false, Bool, List, [], ◌∷◌, ◌++◌, length, take, drop, map, Some, None, refl, sym, ap, ap₂, rules, arith, append_assoc}
use Rattle.std.specs.Prelude.{Option, bytes_eq, cond, decimal, nat_lt, position}
use Rattle.std.specs.List.{position_or_len, slice_split}
use Rattle.std.proofs.lemmas.List.Splits.{slice_split_first, slice_split_none}
use Rattle.std.proofs.lemmas.List.Sums.{fails_before_first}
use Rattle.mgs_rewind.specs.ListChanges.{index_from, is_semicolon, without_space}

less_of : (a b : ℕ) → nat_lt a b ≡ true → a < b
less_of a b e = search rules

more_of : (a b : ℕ) → nat_lt a b ≡ false → b ≤ a
more_of a b e = search rules

-- where a semicolon was found, it is the first
found_at : (p : ℕ → Bool) (xs : List ℕ) (at : ℕ) → position p xs ≡ Some at → (position_or_len p xs < length xs) × (position_or_len p xs ≡ at)
found_at p xs at e = by (nat_lt (position_or_len p xs) (length xs)) refl e
  where
    by : (b : Bool) → nat_lt (position_or_len p xs) (length xs) ≡ b → cond b (Some (position_or_len p xs)) None ≡ Some at → (position_or_len p xs < length xs) × (position_or_len p xs ≡ at)
    by true f g = (less_of (position_or_len p xs) (length xs) f, ap (λ o. elim o [ None ↦ at | Some x ↦ x ]) g)
    by false f g = absurd cc

none_within : (p : ℕ → Bool) (xs : List ℕ) → position p xs ≡ None → length xs ≤ position_or_len p xs
none_within p xs e = by (nat_lt (position_or_len p xs) (length xs)) refl e
  where
    by : (b : Bool) → nat_lt (position_or_len p xs) (length xs) ≡ b → cond b (Some (position_or_len p xs)) None ≡ None → length xs ≤ position_or_len p xs
    by true f g = absurd cc
    by false f g = more_of (position_or_len p xs) (length xs) f

split_first : (xs : List ℕ) (at : ℕ) → position is_semicolon xs ≡ Some at → slice_split is_semicolon xs ≡ take at xs ∷ slice_split is_semicolon (drop (at + 1) xs)
split_first xs at e =
    let found = found_at is_semicolon xs at e in
    slice_split_first is_semicolon xs 0 found.0 ∙ ap (λ n. take n xs ∷ slice_split is_semicolon (drop (n + 1) xs)) found.1

split_last : (xs : List ℕ) → position is_semicolon xs ≡ None → slice_split is_semicolon xs ≡ xs ∷ []
split_last xs e =
    let past = none_within is_semicolon xs e in
    slice_split_none is_semicolon xs (λ k d within. fails_before_first is_semicolon xs k d (omega arith))

-- one more entry was read
pub entry_read : (done next all : List (List ℕ)) (text rest : List ℕ) (at : ℕ) → position is_semicolon text ≡ Some at → done ++ map without_space (slice_split is_semicolon text) ≡ all
    → next ≡ done ++ without_space (take at text) ∷ [] → rest ≡ drop (at + 1) text → next ++ map without_space (slice_split is_semicolon rest) ≡ all
entry_read done next all text rest at found all_read added past =
    ap₂ (λ l r. l ++ map without_space (slice_split is_semicolon r)) added past
    ∙ (append_assoc done (without_space (take at text) ∷ []) (map without_space (slice_split is_semicolon (drop (at + 1) text)))
    ∙ (ap (λ l. done ++ map without_space l) (sym (split_first text at found)) ∙ all_read))

pub last_read : (done next all : List (List ℕ)) (text : List ℕ) → position is_semicolon text ≡ None → done ++ map without_space (slice_split is_semicolon text) ≡ all
    → next ≡ done ++ without_space text ∷ [] → next ≡ all
last_read done next all text none all_read added = added ∙ (ap (λ l. done ++ map without_space l) (sym (split_last text none)) ∙ all_read)

-- the index is not this one
pub index_step : (i count : ℕ) (text : List ℕ) → i ≤ count → index_from i (count + 1 - i) text ≡ cond (bytes_eq text (decimal (i + 1))) (Some i) (index_from (i + 1) (count + 1 - (i + 1)) text)
index_step i count text within =
    let now : count + 1 - i ≡ suc (count - i) = omega arith in
    let next : count - i ≡ count + 1 - (i + 1) = omega arith in
    ap (λ n. index_from i n text) now ∙ ap (λ n. cond (bytes_eq text (decimal (i + 1))) (Some i) (index_from (i + 1) n text)) next

pub index_passed : (i count : ℕ) (text : List ℕ) (is : Bool) (all : Option ℕ) → i ≤ count → is ≡ bytes_eq text (decimal (i + 1)) → is ≡ false
    → index_from i (count + 1 - i) text ≡ all → index_from (i + 1) (count + 1 - (i + 1)) text ≡ all
index_passed i count text is all within same other found =
    sym (index_step i count text within ∙ ap (λ b. cond b (Some i) (index_from (i + 1) (count + 1 - (i + 1)) text)) (sym same ∙ other)) ∙ found
