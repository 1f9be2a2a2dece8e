-- A completion is found name by name, and is no longer than a name.
use Rattle.std.proofs.Common.{◌≡◌, ◌≤◌, ◌==◌, ℕ, Bool, true, false, ◌&&◌, cond, List, ◌∷◌, take, drop, map, length, Option, None, Some, refl, ap, sym, subst, ◌∙◌, arith, ◌+◌, inl, inr}
use Rattle.std.proofs.lemmas.Bool.{leb-true}
use Rattle.std.proofs.lemmas.List.{drop_all, drop_more, length-map, length-take}
use Rattle.std.proofs.lemmas.Option.{get_or_from_slice_get, slice_get-map, slice_get_cases, slice_get_within}
use Rattle.std.specs.Option.{option_map}
use Rattle.std.specs.Prelude.{fold, filter, nat_le, slice_get}
use Rattle.std.specs.List.{common_prefix_len, list_all}
use Rattle.mgs_model.specs.Names.{IsName, is_visible}
use Rattle.mgs_model.specs.Keys.{begins_with}
use Rattle.mgs_model.specs.Access.{Directory}
use Rattle.mgs_model.specs.World.{Buffer, may}
use Rattle.mgs_model.specs.declared.right.Right.TheVariants.{ReadAttributes}
use Rattle.mgs_model.specs.Completion.{completion}
use Rattle.mgs_mini.specs.Narrowing.{granted_names, narrowed}
use Rattle.mgs_mini.proofs.Completions.{completion_by_names}
use Rattle.mgs_buffers.specs.declared.buffer.Buffer as code
use Rattle.mgs_buffers.specs.Contents.{marked_all, marked_of}
use Rattle.mgs_buffers.specs.Completed.{IsWithinName, found_from}
use Rattle.mgs_buffers.specs.MarkedBuffer.{MarkedBuffer}

pub by_names : (input : List ℕ) (names : List (List ℕ)) → fold (narrowed input) None names ≡ completion names input
by_names input names = completion_by_names input names

name_within : (name : List ℕ) → IsName name → length name ≤ 32
name_within name h = leb-true (length name) 32 (middle (nat_le 1 (length name)) (nat_le (length name) 32) (list_all is_visible name) h)
  where
    middle : (a b c : Bool) → (a && (b && c)) ≡ true → b ≡ true
    middle true true c h = refl
    middle true false c h = cc
    middle false b c h = cc

narrowed_within : (input name : List ℕ) (found : Option (List ℕ)) → length name ≤ 32 → IsWithinName found → IsWithinName (narrowed input found name)
narrowed_within input name None le h = elim (begins_with name input) as (λ t. IsWithinName (cond t (Some name) None)) [ true ↦ le | false ↦ tt ]
narrowed_within input name (Some text) le h =
    let k : ℕ = common_prefix_len (λ x y. x == y) text name in
    elim (begins_with name input) as (λ t. IsWithinName (cond t (Some (take k text)) (Some text))) [ true ↦ omega (arith, h, length-take k text) | false ↦ h ]

-- what is found with one buffer more
pub counted_value : (found result : Option (List ℕ)) (input name bytes : List ℕ) (counts shown : Bool) → bytes ≡ name → counts ≡ shown → result ≡ cond counts (narrowed input found bytes) found → result ≡ cond shown (narrowed input found name) found
counted_value found result input name bytes counts shown same told is = is ∙ ap (λ n. cond counts (narrowed input found n) found) same ∙ ap (λ t. cond t (narrowed input found name) found) told

pub counted_within : (found result : Option (List ℕ)) (input name bytes : List ℕ) (counts : Bool) → bytes ≡ name → IsName name → result ≡ cond counts (narrowed input found bytes) found → IsWithinName found → IsWithinName result
counted_within found result input name bytes counts same named is h =
    subst IsWithinName (sym (is ∙ ap (λ n. cond counts (narrowed input found n) found) same))
    (elim counts as (λ t. IsWithinName (cond t (narrowed input found name) found)) [ true ↦ narrowed_within input name found (name_within name named) h | false ↦ h ])

-- the buffers from a place on are the one that stands there and those after it
drop_at : (ks : List MarkedBuffer) (i : ℕ) (k : MarkedBuffer) → slice_get ks i ≡ Some k → drop i ks ≡ k ∷ drop (i + 1) ks
drop_at ks i k e = drop_more ks i k (slice_get_within ks i k e) ∙ ap (λ (y : MarkedBuffer). y ∷ drop (i + 1) ks) (get_or_from_slice_get ks i k k e)

drop_past : (ks : List MarkedBuffer) (i : ℕ) → length ks ≤ i → drop i ks ≡ drop (i + 1) ks
drop_past ks i past = drop_all i ks past ∙ sym (drop_all (i + 1) ks (omega (arith, past)))

from_rest : Directory → List ℕ → List ℕ → Option (List ℕ) → List MarkedBuffer → Option (List ℕ)
from_rest d user input found ks = fold (narrowed input) found (granted_names d user (map (λ (k : MarkedBuffer). k.buffer) ks))

pub found_more : (d : Directory) (user input : List ℕ) (found next : Option (List ℕ)) (ks : List MarkedBuffer) (i : ℕ) (k : MarkedBuffer) → slice_get ks i ≡ Some k
    → next ≡ cond (may d user ReadAttributes k.buffer) (narrowed input found k.buffer.name) found → found_from d user input found ks i ≡ found_from d user input next ks (i + 1)
unfolding from_rest
found_more d user input found next ks i k at is =
    let rest : List Buffer = map (λ (x : MarkedBuffer). x.buffer) (drop (i + 1) ks) in
    let names : List Buffer → List (List ℕ) = map (λ (b : Buffer). b.name) in
    let left : List Buffer = filter (may d user ReadAttributes) rest in
    let go : (b : Bool) → fold (narrowed input) found (names (cond b (k.buffer ∷ left) left)) ≡ fold (narrowed input) (cond b (narrowed input found k.buffer.name) found) (names left) =
    λ b. elim b as (λ b. fold (narrowed input) found (names (cond b (k.buffer ∷ left) left)) ≡ fold (narrowed input) (cond b (narrowed input found k.buffer.name) found) (names left)) [ true ↦ refl | false ↦ refl ] in
    ap (from_rest d user input found) (drop_at ks i k at)
    ∙ go (may d user ReadAttributes k.buffer)
    ∙ ap (λ (o : Option (List ℕ)). fold (narrowed input) o (names left)) (sym is)

pub found_past : (d : Directory) (user input : List ℕ) (found : Option (List ℕ)) (ks : List MarkedBuffer) (i : ℕ) → length ks ≤ i → found_from d user input found ks i ≡ found_from d user input found ks (i + 1)
unfolding from_rest
found_past d user input found ks i past = ap (from_rest d user input found) (drop_past ks i past)

-- past the last one
pub found_end : (d : Directory) (user input : List ℕ) (found : Option (List ℕ)) (ks : List MarkedBuffer) (n : ℕ) → n ≡ length ks → found_from d user input found ks n ≡ found
unfolding from_rest
found_end d user input found ks n is = ap (from_rest d user input found) (drop_all n ks (omega (arith, is)))

-- the same of entries
module _ {T : Type 0} (text : T → List ℕ) (marks : T → List (Option ℕ)) where
  pub marked_there : (es : List (List ℕ × code.Buffer T)) (i : ℕ) (n : List ℕ) (s : code.Buffer T) → slice_get es i ≡ Some (n, s) → slice_get (marked_all text marks es) i ≡ Some (marked_of text marks n s)
  marked_there es i n s at = slice_get-map (λ (e : List ℕ × code.Buffer T). marked_of text marks e.0 e.1) es i ∙ ap (option_map (λ (e : List ℕ × code.Buffer T). marked_of text marks e.0 e.1)) at

  pub marked_past : (es : List (List ℕ × code.Buffer T)) (i : ℕ) → slice_get es i ≡ None → length (marked_all text marks es) ≤ i
  marked_past es i none = elim (slice_get_cases es i).1 [
    | inl there ↦ let no : None ≡ Some there.0 = sym none ∙ there.2 in cc
    | inr past ↦ omega (arith, past.0, length-map es (λ (e : List ℕ × code.Buffer T). marked_of text marks e.0 e.1))
  ]
