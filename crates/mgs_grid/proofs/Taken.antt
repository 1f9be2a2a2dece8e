-- Rows that a walk has not come to yet.
use Rattle.std.proofs.Common.{◌≡◌, ℕ, ◌<◌, List, length, get_or, drop, sym, ap, ◌∙◌, add-zero, refl}
use Rattle.std.specs.Prelude.{slice_get}
use Rattle.std.proofs.lemmas.List.{get_or-drop}
use Rattle.std.proofs.lemmas.Option.{slice_get_read, get_or_from_slice_get}
use Rattle.mgs_model.specs.Rows.{Row}

head_left : (xs : List Row) (i : ℕ) (d : Row) → get_or xs i d ≡ get_or (drop i xs) 0 d
head_left xs i d = ap (λ k. get_or xs k d) (sym (add-zero i)) ∙ sym (get_or-drop i xs 0 d)

-- the next row is as it was
pub left_read : (olds lines : List Row) (i : ℕ) (d : Row) → drop i lines ≡ drop i olds → get_or lines i d ≡ get_or olds i d
left_read olds lines i d left = head_left lines i d ∙ ap (λ (rs : List Row). get_or rs 0 d) left ∙ sym (head_left olds i d)

-- and the same as the one that it is compared with, where that did not change
pub same_read : (olds lines news : List Row) (i : ℕ) (new d : Row) → drop i lines ≡ drop i olds → i < length news → new ≡ get_or news i new → slice_get news i ≡ slice_get olds i → new ≡ get_or lines i d
same_read olds lines news i new d left within at same =
    sym (left_read olds lines i d left ∙ get_or_from_slice_get olds i new d (sym same ∙ slice_get_read news (length news) i new refl within at))
