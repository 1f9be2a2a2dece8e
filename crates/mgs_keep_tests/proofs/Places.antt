-- THE PLACE OF A NAME among rows is its place among their rules.
use Rattle.std.proofs.Common.{◌≡◌, ℕ, suc, ◌+◌, List, [], ◌∷◌, length, map, None, Some, refl, sym, ap, ap₂, ◌∙◌}
use Rattle.std.specs.Prelude.{Option, cond, nat_lt, not, position}
use Rattle.std.specs.List.{prefix_len}
use Rattle.mgs_model.specs.Names.{same_name}
use Rattle.mgs_ledger.specs.Keeping.{is_row_of}
use Rattle.mgs_journal.specs.Kept.{is_of, place_of}
use Rattle.mgs_journal.specs.Rows.{KeptRights, rules_in_rows, rules_of_row}

-- so many rows are before the first of a name
before_in_rows : (name : List ℕ) (rows : List KeptRights) → prefix_len (λ r. not (is_of name r)) (map rules_of_row rows) ≡ prefix_len (λ k. not (is_row_of name k)) rows
before_in_rows name [] = refl
before_in_rows name (k ∷ ks) = ap (λ n. cond (not (same_name name k.rules.name)) (1 + n) 0) (before_in_rows name ks)

count_in_rows : (rows : List KeptRights) → length (map rules_of_row rows) ≡ length rows
count_in_rows [] = refl
count_in_rows (k ∷ ks) = ap suc (count_in_rows ks)

place_of_rows : (name : List ℕ) (rows : List KeptRights) → place_of name (rules_in_rows rows) ≡ position (is_row_of name) rows
place_of_rows name rows = ap₂ (λ n m. cond (nat_lt n m) (Some n) None) (before_in_rows name rows) (count_in_rows rows)

-- what is found among the rows is found among their rules
pub place_found : (name : List ℕ) (rows : List KeptRights) (found : Option ℕ) → found ≡ position (is_row_of name) rows → found ≡ place_of name (rules_in_rows rows)
place_found name rows found e = e ∙ sym (place_of_rows name rows)
