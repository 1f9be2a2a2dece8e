-- Rights that are told, at one index.
use Rattle.std.proofs.Common.{◌≡◌, ℕ, List, map, Some, None, sym, ap, ◌∙◌}
use Rattle.std.specs.Prelude.{slice_get}
use Rattle.std.specs.Option.{option_map}
use Rattle.std.proofs.lemmas.Option.{slice_get-map}
use Rattle.mgs_journal.specs.Rows.{KeptRights, rules_in_rows, rules_of_row}
use Rattle.mgs_rewind.specs.RowChanges.{ToldRights}
use Rattle.mgs_ledger.specs.Agreement.{told_of}

same_some : {A : Type 0} (a b : A) → Some a ≡ Some b → a ≡ b
same_some a b e = ap (λ o. elim o [ None ↦ a | Some x ↦ x ]) e

-- where all rows have the rights that were told, each has its own
pub told_at : (told : List ToldRights) (rows : List KeptRights) (i : ℕ) (t : ToldRights) (k : KeptRights)
    → told ≡ map told_of (rules_in_rows rows) → slice_get told i ≡ Some t → slice_get rows i ≡ Some k → t ≡ told_of k.rules
told_at told rows i t k all at row =
    same_some t (told_of k.rules)
    (sym at ∙ (ap (λ l. slice_get l i) all ∙ (slice_get-map told_of (rules_in_rows rows) i
    ∙ (ap (option_map told_of) (slice_get-map rules_of_row rows i) ∙ ap (λ r. option_map told_of (option_map rules_of_row r)) row))))
