-- What a judge keeps of the buffers stays right when it decides.
use Rattle.std.proofs.Common.{◌≡◌, ℕ, List, [], ◌∷◌, map, Option, Some, None, refl, sym, ap, subst, ◌∙◌}
use Rattle.std.specs.Prelude.{slice_get, is_some, IfSome}
use Rattle.std.specs.Option.{option_map}
use Rattle.std.proofs.lemmas.Option.{slice_get-map}
use Rattle.mgs_model.specs.Access.{Directory, decider, decision, decision_by}
use Rattle.mgs_model.specs.declared.owners.Owners.{Owners}
use Rattle.mgs_laws.specs.Apart.{Rules, rules_of}
use Rattle.mgs_model.specs.Rights.{bit_of}
use Rattle.mgs_model.specs.World as model
use Rattle.mgs_model.specs.declared.entry.Decision.{Decision}
use Rattle.mgs_model.specs.declared.entry.Entry.{Entry}
use Rattle.mgs_model.specs.declared.right.Right.{Right}
use Rattle.mgs_policy.proofs.Walks.{decision_one}
use Rattle.mgs_cache.specs.Kept.{Kept, AreRight, AreAmong, kept}
use Rattle.mgs_cache.proofs.Rightness.{right_none, right_with}
use Rattle.mgs_buffers.specs.declared.buffer.Buffer.{Buffer}
use Rattle.mgs_buffers.specs.MarkedBuffer.{MarkedBuffer}
use Rattle.mgs_buffers.specs.Contents.{marked_of, marked_all}
use Rattle.mgs_buffers.specs.Judging.{AreJudged, IsRuled, StaysRight, rules_kept}

-- nothing is kept
pub judged_none : (directory : Directory) (rules : List Rules) → AreJudged directory rules []
judged_none directory rules = record { each = λ place r is. right_none place directory r.owners r.entries }

-- what is kept for the buffer at a place is right
pub right_there : (place : ℕ) (directory : Directory) (owners : Owners) (entries : List Entry) (rules : List Rules) (keeps : List Kept) → AreJudged directory rules keeps → IsRuled place owners entries rules → AreRight place directory owners entries keeps
right_there place directory owners entries rules keeps judged is = judged.each place (record { name = is.name; owners = owners; entries = entries }) is.there

same_rules : (a b : Rules) → Some a ≡ Some b → a ≡ b
same_rules a b e = cc

-- what an option holds
pub some_holds : {A : Type 0} (P : A → Type 0) (o : Option A) (a : A) → o ≡ Some a → IfSome o P → P a
some_holds P o a e h = subst (λ x. IfSome x P) e h

pub mapped_one : {A B : Type 0} (f : A → B) (o : Option A) (a : A) (q : Option B) → o ≡ Some a → option_map f o ≡ q → Some (f a) ≡ q
mapped_one f o a q e h = sym (ap (option_map f) e) ∙ h

pub some_mapped : {A B : Type 0} (f : A → B) (o : Option A) → is_some o ≡ is_some (option_map f o)
some_mapped f None = refl
some_mapped f (Some a) = refl

-- one decision more is kept, and it is right
pub judged_with : (place : ℕ) (directory : Directory) (owners : Owners) (user : List ℕ) (entries : List Entry) (mask : ℕ) (d : Decision) (old new : List Kept) → AreAmong new (kept place user mask d ∷ old) → d ≡ decision directory owners user entries mask → StaysRight place directory owners entries old new
judged_with place directory owners user entries mask d old new among is rules judged here = record {
  each = λ other r at.
      right_with other directory r.owners r.entries new old (kept place user mask d) among (judged.each other r at)
      (λ e.
      let mine : Rules = record { name = here.name; owners = owners; entries = entries } in
      let same : mine ≡ r = same_rules mine r (sym here.there ∙ ap (slice_get rules) e ∙ at) in
      is ∙ ap (λ (x : Rules). decision directory x.owners user x.entries mask) same);
}

-- on one right
pub one_right : (directory : Directory) (owners : Owners) (user : List ℕ) (entries : List Entry) (right : Right) → decision directory owners user entries (bit_of right) ≡ decision_by (decider directory owners user entries) (right ∷ [])
one_right directory owners user entries right = decision_one directory owners user entries right

module _ {T : Type 0} (text : T → List ℕ) (marks : T → List (Option ℕ)) where
  -- what is decided by at a place
  rules_at : (es : List (List ℕ × Buffer T)) (ks : List MarkedBuffer) (i : ℕ) (o : Option (List ℕ × Buffer T)) → marked_all text marks es ≡ ks → o ≡ slice_get es i
      → option_map rules_of (option_map (λ (k : MarkedBuffer). k.buffer) (option_map (λ (e : List ℕ × Buffer T). marked_of text marks e.0 e.1) o)) ≡ slice_get (rules_kept ks) i
  rules_at es ks i o view at =
      let f : List ℕ × Buffer T → MarkedBuffer = λ e. marked_of text marks e.0 e.1 in
      let g : MarkedBuffer → model.Buffer = λ k. k.buffer in
      sym (ap (λ (xs : List MarkedBuffer). slice_get (rules_kept xs) i) (sym view)
      ∙ slice_get-map rules_of (map g (map f es)) i
      ∙ ap (option_map rules_of) (slice_get-map g (map f es) i ∙ ap (option_map g) (slice_get-map f es i ∙ ap (option_map f) (sym at))))

  pub rules_found : (es : List (List ℕ × Buffer T)) (ks : List MarkedBuffer) (i : ℕ) (n : List ℕ) (s : Buffer T) → marked_all text marks es ≡ ks → Some (n, s) ≡ slice_get es i
      → Some (rules_of (marked_of text marks n s).buffer) ≡ slice_get (rules_kept ks) i
  rules_found es ks i n s view at = rules_at es ks i (Some (n, s)) view at

  pub rules_none : (es : List (List ℕ × Buffer T)) (ks : List MarkedBuffer) (i : ℕ) → marked_all text marks es ≡ ks → None ≡ slice_get es i → None ≡ slice_get (rules_kept ks) i
  rules_none es ks i view at = rules_at es ks i None view at

  -- the buffer that stands at a place
  pub ruled_at : (es : List (List ℕ × Buffer T)) (ks : List MarkedBuffer) (i : ℕ) (n : List ℕ) (s : Buffer T) → marked_all text marks es ≡ ks → slice_get es i ≡ Some (n, s) → IsRuled i s.owners s.list (rules_kept ks)
  ruled_at es ks i n s view at = record { name = n; there = sym (rules_found es ks i n s view (sym at)) }
