-- The first that passes, by its place.
use Rattle.std.proofs.Common.{◌≡◌, ℕ, ◌<◌, ◌≤◌, Bool, true, false, List, length, Some, None, refl, sym, ap, ◌∙◌}
use Rattle.std.proofs.lemmas.List.Folds.{find_at}
use Rattle.std.proofs.lemmas.Bool.{ltb-false}
use Rattle.std.proofs.lemmas.Option.{slice_get_past, slice_get_read}
use Rattle.std.specs.Prelude.{cond, find, nat_lt, position, remove, slice_get, slice_index_or}
use Rattle.std.specs.List.{position_or_len}
use Rattle.mgs_model.specs.Apply.{remove_first}
use Rattle.mgs_buffers.proofs.Places.{index_place}
use Rattle.mgs_core.proofs.Ids.{remove_at_first, remove_none}

module _ {A : Type 0} (p : A → Bool) (xs : List A) where
  pub found_at : (at : ℕ) (x : A) → position p xs ≡ Some at → at < length xs → x ≡ slice_index_or xs at x → Some x ≡ find p xs
  found_at at x e within is = sym (slice_get_read xs (length xs) at x refl within is) ∙ ap (slice_get xs) (index_place p xs at e) ∙ sym (find_at p xs)

  pub left_at : (at : ℕ) → position p xs ≡ Some at → remove xs at ≡ remove_first p xs
  left_at at e = ap (remove xs) (index_place p xs at e) ∙ remove_at_first p xs

  beyond : (b : Bool) → nat_lt (position_or_len p xs) (length xs) ≡ b → cond b (Some (position_or_len p xs)) None ≡ None → length xs ≤ position_or_len p xs
  beyond true q e = absurd cc
  beyond false q e = ltb-false (position_or_len p xs) (length xs) q

  pub found_none : position p xs ≡ None → find p xs ≡ None
  found_none e = find_at p xs ∙ slice_get_past xs (position_or_len p xs) (beyond (nat_lt (position_or_len p xs) (length xs)) refl e)

  pub left_none : position p xs ≡ None → xs ≡ remove_first p xs
  left_none e = sym (remove_none p xs (found_none e))
