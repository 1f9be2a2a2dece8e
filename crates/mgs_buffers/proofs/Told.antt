-- What is told of the buffer at an index.
use Rattle.std.proofs.Common.{◌≡◌, ℕ, List, Option, Some, None, sym, ap, ◌∙◌}
use Rattle.std.specs.Prelude.{slice_get}
use Rattle.std.specs.Option.{option_map}
use Rattle.std.proofs.lemmas.Option.{slice_get-map}
use Rattle.mgs_model.specs.Access.{Directory}
use Rattle.mgs_buffers.specs.declared.buffer.Buffer.{Buffer}
use Rattle.mgs_buffers.specs.MarkedBuffer.{MarkedBuffer}
use Rattle.mgs_buffers.specs.Contents.{marked_of, marked_all}
use Rattle.mgs_buffers.specs.Told.{attributes_to, attributes_found}

module _ {T : Type 0} (text : T → List ℕ) (marks : T → List (Option ℕ)) (directory : Directory) (user : List ℕ) where
  told_at : (es : List (List ℕ × Buffer T)) (ks : List MarkedBuffer) (i : ℕ) (o : Option (List ℕ × Buffer T)) → marked_all text marks es ≡ ks → o ≡ slice_get es i
      → attributes_found directory user (option_map (λ (e : List ℕ × Buffer T). marked_of text marks e.0 e.1) o) ≡ attributes_found directory user (slice_get ks i)
  told_at es ks i o view at =
      ap (λ (p : Option (List ℕ × Buffer T)). attributes_found directory user (option_map (λ (e : List ℕ × Buffer T). marked_of text marks e.0 e.1) p)) at
      ∙ ap (attributes_found directory user) (sym (slice_get-map (λ (e : List ℕ × Buffer T). marked_of text marks e.0 e.1) es i))
      ∙ ap (λ (xs : List MarkedBuffer). attributes_found directory user (slice_get xs i)) view

  pub told_found : (es : List (List ℕ × Buffer T)) (ks : List MarkedBuffer) (i : ℕ) (n : List ℕ) (s : Buffer T) → marked_all text marks es ≡ ks → Some (n, s) ≡ slice_get es i
      → attributes_to directory user (marked_of text marks n s).buffer ≡ attributes_found directory user (slice_get ks i)
  told_found es ks i n s view at = told_at es ks i (Some (n, s)) view at

  pub told_none : (es : List (List ℕ × Buffer T)) (ks : List MarkedBuffer) (i : ℕ) → marked_all text marks es ≡ ks → None ≡ slice_get es i → None ≡ attributes_found directory user (slice_get ks i)
  told_none es ks i view at = told_at es ks i None view at
