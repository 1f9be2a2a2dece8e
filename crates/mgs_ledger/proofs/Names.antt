-- Names that compare alike are one, and what that makes of names that are taken.
use Rattle.std.proofs.Common.{◌≡◌, ℕ, suc, ◌+◌, Bool, true, false, List, [], ◌∷◌, length, map, None, Some, refl, sym, ap, ap₂, ◌∙◌}
use Rattle.std.specs.Prelude.{◌&&◌, ◌||◌, Option, cond, filter, nat_lt, not, position}
use Rattle.std.specs.List.{prefix_len}
use Rattle.mgs_model.specs.Access.{is_among}
use Rattle.mgs_model.specs.Names.{same_name}
use Rattle.mgs_model.proofs.Blind as blind
use Rattle.mgs_ledger.specs.Keeping.{is_row_of}
use Rattle.mgs_journal.specs.Kept.{is_of, place_of}
use Rattle.mgs_journal.specs.Rows.{KeptRights, rules_in_rows, rules_of_row}

pub same_names : (a b : List ℕ) → same_name a b ≡ true → a ≡ b
same_names a b e = blind.same_names a b e

none : (a n : Bool) → n ≡ true → (a && not n) ≡ (true && not n)
none true n e = refl
none false true e = refl
none false false e = absurd cc

yes : (n : Bool) → n ≡ false → true ≡ (true && not n)
yes true e = absurd cc
yes false e = refl

-- once a name is free it is not taken, and each other one is where it was
pub freed : (name other : List ℕ) (names : List (List ℕ))
    → is_among other (filter (λ n. not (same_name name n)) names) ≡ (is_among other names && not (same_name name other))
freed name other [] = refl
freed name other (x ∷ xs) = by (same_name name x) refl (same_name other x) refl (freed name other xs)
  where
    left : List (List ℕ)
    left = filter (λ n. not (same_name name n)) xs

    meets : (b : Bool) → same_name name x ≡ b → same_name other x ≡ true → same_name name other ≡ b
    meets b e same = ap (same_name name) (same_names other x same) ∙ e

    by : (b : Bool) → same_name name x ≡ b → (c : Bool) → same_name other x ≡ c
        → is_among other left ≡ (is_among other xs && not (same_name name other))
        → is_among other (cond (not b) (x ∷ left) left) ≡ ((c || is_among other xs) && not (same_name name other))
    by true e true f rest = rest ∙ none (is_among other xs) (same_name name other) (meets true e f)
    by true e false f rest = rest
    by false e true f rest = ap (λ k. k || is_among other left) f ∙ yes (same_name name other) (meets false e f)
    by false e false f rest = ap (λ k. k || is_among other left) f ∙ rest

-- so many rows are before the first of a name
before_in_rows : (name : List ℕ) (rows : List KeptRights) → prefix_len (λ r. not (is_of name r)) (map rules_of_row rows) ≡ prefix_len (λ k. not (is_row_of name k)) rows
before_in_rows name [] = refl
before_in_rows name (k ∷ ks) = ap (λ n. cond (not (same_name name k.rules.name)) (1 + n) 0) (before_in_rows name ks)

count_in_rows : (rows : List KeptRights) → length (map rules_of_row rows) ≡ length rows
count_in_rows [] = refl
count_in_rows (k ∷ ks) = ap suc (count_in_rows ks)

place_of_rows : (name : List ℕ) (rows : List KeptRights) → place_of name (rules_in_rows rows) ≡ position (is_row_of name) rows
place_of_rows name rows = ap₂ (λ n m. cond (nat_lt n m) (Some n) None) (before_in_rows name rows) (count_in_rows rows)

-- what is found among the rows is found among their rules
pub place_found : (name : List ℕ) (rows : List KeptRights) (found : Option ℕ) → found ≡ position (is_row_of name) rows → found ≡ place_of name (rules_in_rows rows)
place_found name rows found e = e ∙ sym (place_of_rows name rows)
