-- One that ended is told, and then the others.
use Rattle.std.proofs.Common.{◌≡◌, ℕ, List, [], ◌∷◌, ◌++◌, drop, Option, Some, ap, ◌∙◌}
use Rattle.std.proofs.lemmas.List.{append_assoc}
use Rattle.std.specs.Prelude.{find, slice_get}
use Rattle.mgs_model.specs.Apply.{remove_first}
use Rattle.mgs_engine.specs.declared.session_end.Cause.{Cause}
use Rattle.mgs_journal.specs.declared.Told.{Told}
use Rattle.mgs_keep.specs.Ends.{end_noted, ends_told, is_noted, listed, noted_left}
use Rattle.mgs_keep.specs.declared.session_users.Noted.{Noted}

module _ (us vs : List Noted) (id : ℕ) (cause : Cause) (left : vs ≡ remove_first (is_noted id) us) where
  pub left_next : (es fs : List (ℕ × Cause)) (whole : List Noted) → Some (id, cause) ≡ slice_get es 0 → fs ≡ drop 1 es → noted_left us es ≡ whole → noted_left vs fs ≡ whole
  left_next [] fs whole first rest all = absurd cc
  left_next (e ∷ es) fs whole first rest all =
      let is : (id, cause) ≡ e = cc in
      ap (noted_left vs) rest
      ∙ ap (λ (u : List Noted). noted_left u es) (left ∙ ap (λ (x : ℕ × Cause). remove_first (is_noted x.0) us) is)
      ∙ all

  pub told_next : (es fs : List (ℕ × Cause)) (before whole : List Told) (told : Option Told) → Some (id, cause) ≡ slice_get es 0 → fs ≡ drop 1 es
      → told ≡ end_noted (find (is_noted id) us) cause → before ++ ends_told us es ≡ whole → (before ++ listed told) ++ ends_told vs fs ≡ whole
  told_next [] fs before whole told first rest said all = absurd cc
  told_next (e ∷ es) fs before whole told first rest said all =
      let is : (id, cause) ≡ e = cc in
      append_assoc before (listed told) (ends_told vs fs)
      ∙ ap (λ (t : Option Told). before ++ (listed t ++ ends_told vs fs)) (said ∙ ap (λ (x : ℕ × Cause). end_noted (find (is_noted x.0) us) x.1) is)
      ∙ ap (λ (ts : List Told). before ++ (listed (end_noted (find (is_noted e.0) us) e.1) ++ ts))
      (ap (ends_told vs) rest ∙ ap (λ (u : List Noted). ends_told u es) (left ∙ ap (λ (x : ℕ × Cause). remove_first (is_noted x.0) us) is))
      ∙ all
