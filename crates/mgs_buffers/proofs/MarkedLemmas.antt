-- What a name finds among the buffers, and what a write there does to the buffers.
use Rattle.std.proofs.Common.{◌≡◌, ℕ, zero, suc, ◌+◌, not, one-add, Bool, true, false, cond, List, [], ◌∷◌, ◌++◌, map, slice_get, Option, Some, None, refl, sym, ap, ◌∙◌}
use Rattle.std.specs.Prelude.{find, is_some, IfSome, Result, Ok, Err, OnOk, OnErr, IfOk}
use Rattle.std.specs.Option.{option_map}
use Rattle.std.specs.List.{position_or_len}
use Rattle.std.specs.Map.{lookup, keys_of, remove_entry}
use Rattle.indexmap.specs.IndexMap.{set_value_at}
use Rattle.mgs_model.specs.Names.{same_name}
use Rattle.mgs_model.specs.Apply.{change_first}
use Rattle.mgs_model.specs.World as model
use Rattle.mgs_model.proofs.Blind.{same_names, is_name}
use Rattle.mgs_buffers.specs.declared.buffer.Buffer.{Buffer}
use Rattle.mgs_buffers.specs.MarkedBuffer.{MarkedBuffer, marked_named, marked_at, marked_or_none, has_buffer, HasBuffer, without_marked}
use Rattle.mgs_buffers.specs.Contents.{marked_of, marked_all}

module _ {T : Type 0} (text : T → List ℕ) (marks : T → List (Option ℕ)) where
  -- the buffer of a name is the buffer of that key
  pub find-kept : (name : List ℕ) (es : List (List ℕ × Buffer T)) → find (marked_named name) (marked_all text marks es) ≡ option_map (marked_of text marks name) (lookup (same_name name) es)
  find-kept name [] = refl
  find-kept name (e ∷ es) =
      let goal : Bool → Type 0 = λ b. same_name name e.0 ≡ b → cond b (Some (marked_of text marks e.0 e.1)) (find (marked_named name) (marked_all text marks es)) ≡ option_map (marked_of text marks name) (cond b (Some e.1) (lookup (same_name name) es)) in
      let go : (b : Bool) → goal b =
      λ b. elim b as goal [
        | true ↦ λ t. ap (λ n. Some (marked_of text marks n e.1)) (sym (same_names name e.0 t))
        | false ↦ λ t. find-kept name es
      ]
      in go (same_name name e.0) refl

  pub has_buffer-lookup : (name : List ℕ) (es : List (List ℕ × Buffer T)) (ks : List MarkedBuffer) → marked_all text marks es ≡ ks → is_some (lookup (same_name name) es) ≡ has_buffer name ks
  has_buffer-lookup name es ks view =
      let same : (o : Option (Buffer T)) → is_some o ≡ is_some (option_map (marked_of text marks name) o) = elim [ None ↦ refl | Some s ↦ refl ] in
      same (lookup (same_name name) es) ∙ ap is_some (sym (find-kept name es)) ∙ ap (has_buffer name) view

  pub kept-found : (name : List ℕ) (es : List (List ℕ × Buffer T)) (ks : List MarkedBuffer) (s : Buffer T) → marked_all text marks es ≡ ks → Some s ≡ lookup (same_name name) es → marked_of text marks name s ≡ marked_at name ks
  kept-found name es ks s view found =
      ap (λ o. marked_or_none (option_map (marked_of text marks name) o)) found ∙ ap marked_or_none (sym (find-kept name es)) ∙ ap (marked_at name) view

  -- places by key and by name
  pub place_kept : (name : List ℕ) (es : List (List ℕ × Buffer T)) → position_or_len (same_name name) (keys_of es) ≡ position_or_len (marked_named name) (marked_all text marks es)
  place_kept name [] = refl
  place_kept name (e ∷ es) = ap (λ n. cond (not (same_name name e.0)) (1 + n) 0) (place_kept name es)

  -- what stands at the place of a name
  pub kept-at_place : (name : List ℕ) (es : List (List ℕ × Buffer T)) (ks : List MarkedBuffer) (i : ℕ) (n : List ℕ) (s : Buffer T) → marked_all text marks es ≡ ks → i ≡ position_or_len (marked_named name) ks → slice_get es i ≡ Some (n, s) → marked_of text marks name s ≡ marked_at name ks
  kept-at_place name es ks i n s view place at =
      kept-found name es ks s view (there es i (place ∙ ap (position_or_len (marked_named name)) (sym view)) at)
    where
      there : (es : List (List ℕ × Buffer T)) (i : ℕ) → i ≡ position_or_len (marked_named name) (marked_all text marks es) → slice_get es i ≡ Some (n, s) → Some s ≡ lookup (same_name name) es
      there [] i place at = cc
      there (e ∷ es) i place at =
          let goal : Bool → Type 0 = λ b. i ≡ cond (not b) (1 + position_or_len (marked_named name) (marked_all text marks es)) 0 → Some s ≡ cond b (Some e.1) (lookup (same_name name) es) in
          let go : (b : Bool) → goal b =
          λ b. elim b as goal [
            | true ↦ λ p. let first : Some e ≡ Some (n, s) = ap (slice_get (e ∷ es)) (sym p) ∙ at in let same : e ≡ (n, s) = cc in sym (ap (λ (q : List ℕ × Buffer T). Some q.1) same)
            | false ↦ λ p.
                let next : i ≡ suc (position_or_len (marked_named name) (marked_all text marks es)) = p ∙ one-add _ in
                there es (position_or_len (marked_named name) (marked_all text marks es)) refl (ap (slice_get (e ∷ es)) (sym next) ∙ at)
          ]
          in go (same_name name e.0) place

  -- a write there
  pub kept-written : (name : List ℕ) (f : MarkedBuffer → MarkedBuffer) (es : List (List ℕ × Buffer T)) (ks : List MarkedBuffer) (i : ℕ) (n : List ℕ) (s w : Buffer T) → marked_all text marks es ≡ ks → i ≡ position_or_len (marked_named name) ks → slice_get es i ≡ Some (n, s) → ((m : List ℕ) → marked_of text marks m w ≡ f (marked_of text marks m s)) → marked_all text marks (set_value_at es i w) ≡ change_first (marked_named name) f ks
  kept-written name f es ks i n s w view place at does =
      there es i (place ∙ ap (position_or_len (marked_named name)) (sym view)) at ∙ ap (change_first (marked_named name) f) view
    where
      there : (es : List (List ℕ × Buffer T)) (i : ℕ) → i ≡ position_or_len (marked_named name) (marked_all text marks es) → slice_get es i ≡ Some (n, s) → marked_all text marks (set_value_at es i w) ≡ change_first (marked_named name) f (marked_all text marks es)
      there [] i place at = cc
      there (e ∷ es) i place at =
          let rest : List MarkedBuffer = marked_all text marks es in
          let goal : Bool → Type 0 = λ b. i ≡ cond (not b) (1 + position_or_len (marked_named name) rest) 0 → marked_all text marks (set_value_at (e ∷ es) i w) ≡ cond b (f (marked_of text marks e.0 e.1) ∷ rest) (marked_of text marks e.0 e.1 ∷ change_first (marked_named name) f rest) in
          let go : (b : Bool) → goal b =
          λ b. elim b as goal [
            | true ↦ λ p.
                let first : Some e ≡ Some (n, s) = ap (slice_get (e ∷ es)) (sym p) ∙ at in
                let same : e ≡ (n, s) = cc in
                ap (λ j. marked_all text marks (set_value_at (e ∷ es) j w)) p
                ∙ ap (λ k. k ∷ rest) (does e.0 ∙ ap (λ (q : List ℕ × Buffer T). f (marked_of text marks e.0 q.1)) (sym same))
            | false ↦ λ p.
                let j : ℕ = position_or_len (marked_named name) rest in
                let next : i ≡ suc j = p ∙ one-add _ in
                ap (λ m. marked_all text marks (set_value_at (e ∷ es) m w)) next
                ∙ ap (λ ys. marked_of text marks e.0 e.1 ∷ ys) (there es j refl (ap (slice_get (e ∷ es)) (sym next) ∙ at))
          ]
          in go (same_name name e.0) place

  -- a write of what was there
  pub kept-same : (es : List (List ℕ × Buffer T)) (ks : List MarkedBuffer) (i : ℕ) (n : List ℕ) (s w : Buffer T) → marked_all text marks es ≡ ks → slice_get es i ≡ Some (n, s) → ((m : List ℕ) → marked_of text marks m w ≡ marked_of text marks m s) → marked_all text marks (set_value_at es i w) ≡ ks
  kept-same es ks i n s w view at same = there es i at ∙ view
    where
      there : (es : List (List ℕ × Buffer T)) (i : ℕ) → slice_get es i ≡ Some (n, s) → marked_all text marks (set_value_at es i w) ≡ marked_all text marks es
      there [] i at = cc
      there (e ∷ es) zero at =
          let here : e ≡ (n, s) = cc in
          ap (λ k. k ∷ marked_all text marks es) (same e.0 ∙ ap (λ (q : List ℕ × Buffer T). marked_of text marks e.0 q.1) (sym here))
      there (e ∷ es) (suc i) at = ap (λ ys. marked_of text marks e.0 e.1 ∷ ys) (there es i at)

  pub marked_all-append : (xs ys : List (List ℕ × Buffer T)) → marked_all text marks (xs ++ ys) ≡ marked_all text marks xs ++ marked_all text marks ys
  marked_all-append [] ys = refl
  marked_all-append (x ∷ xs) ys = ap (λ ks. marked_of text marks x.0 x.1 ∷ ks) (marked_all-append xs ys)

  -- a buffer more
  pub kept-added : (es fs : List (List ℕ × Buffer T)) (ks : List MarkedBuffer) (n : List ℕ) (s : Buffer T) (k : MarkedBuffer) → marked_all text marks es ≡ ks → fs ≡ es ++ (n, s) ∷ [] → marked_of text marks n s ≡ k → marked_all text marks fs ≡ ks ++ k ∷ []
  kept-added es fs ks n s k view more is =
      ap (marked_all text marks) more ∙ marked_all-append es ((n, s) ∷ []) ∙ ap (λ xs. xs ++ marked_of text marks n s ∷ []) view ∙ ap (λ x. ks ++ x ∷ []) is

  -- a buffer less
  pub kept-removed : (name : List ℕ) (es : List (List ℕ × Buffer T)) → marked_all text marks (remove_entry (same_name name) es) ≡ without_marked name (marked_all text marks es)
  kept-removed name [] = refl
  kept-removed name (e ∷ es) =
      let goal : Bool → Type 0 = λ b. marked_all text marks (cond b es (e ∷ remove_entry (same_name name) es)) ≡ cond b (marked_all text marks es) (marked_of text marks e.0 e.1 ∷ without_marked name (marked_all text marks es)) in
      elim (same_name name e.0) as goal [ true ↦ refl | false ↦ ap (λ ks. marked_of text marks e.0 e.1 ∷ ks) (kept-removed name es) ]

  pub kept-without : (name : List ℕ) (es fs : List (List ℕ × Buffer T)) (ks : List MarkedBuffer) → marked_all text marks es ≡ ks → fs ≡ remove_entry (same_name name) es → marked_all text marks fs ≡ without_marked name ks
  kept-without name es fs ks view less = ap (marked_all text marks) less ∙ kept-removed name es ∙ ap (without_marked name) view

  -- the buffer at the head of what is left, where it passes, is the first of all that does
  pub found-first : (p : model.Buffer → Bool) (left rest : List (List ℕ × Buffer T)) (ks : List MarkedBuffer) (n : List ℕ) (s : Buffer T) → left ≡ (n, s) ∷ rest
      → find p (map (λ (k : MarkedBuffer). k.buffer) (marked_all text marks left)) ≡ find p (map (λ (k : MarkedBuffer). k.buffer) ks)
      → true ≡ p (marked_of text marks n s).buffer → find p (map (λ (k : MarkedBuffer). k.buffer) ks) ≡ Some (marked_of text marks n s).buffer
  found-first p left rest ks n s head same passes =
      sym same ∙ ap (λ es. find p (map (λ (k : MarkedBuffer). k.buffer) (marked_all text marks es))) head
      ∙ ap (λ b. cond b (Some (marked_of text marks n s).buffer) (find p (map (λ (k : MarkedBuffer). k.buffer) (marked_all text marks rest)))) (sym passes)

  -- where it does not pass, the first is after it
  pub found-later : (p : model.Buffer → Bool) (left rest : List (List ℕ × Buffer T)) (ks : List MarkedBuffer) (n : List ℕ) (s : Buffer T) → left ≡ (n, s) ∷ rest
      → find p (map (λ (k : MarkedBuffer). k.buffer) (marked_all text marks left)) ≡ find p (map (λ (k : MarkedBuffer). k.buffer) ks)
      → false ≡ p (marked_of text marks n s).buffer → find p (map (λ (k : MarkedBuffer). k.buffer) (marked_all text marks rest)) ≡ find p (map (λ (k : MarkedBuffer). k.buffer) ks)
  found-later p left rest ks n s head same fails =
      ap (λ b. cond b (Some (marked_of text marks n s).buffer) (find p (map (λ (k : MarkedBuffer). k.buffer) (marked_all text marks rest)))) fails
      ∙ sym (ap (λ es. find p (map (λ (k : MarkedBuffer). k.buffer) (marked_all text marks es))) head) ∙ same

pub none_of : {X : Type 0} (o : Option X) → is_some o ≡ false → o ≡ None
none_of None h = refl
none_of (Some x) h = cc

-- WHAT FOLLOWS IN ONE CASE OF A RESULT

pub OnOk-map : {A E P Q : Type 0} (r : Result A E) → (P → Q) → OnOk r P → OnOk r Q
OnOk-map (Ok x) f p = f p
OnOk-map (Err e) f p = tt

pub OnErr-map : {A E P Q : Type 0} (r : Result A E) → (P → Q) → OnErr r P → OnErr r Q
OnErr-map (Ok x) f p = tt
OnErr-map (Err e) f p = f p

pub IfOk-map : {A E : Type 0} {P Q R S : A → Type 0} (r : Result A E) → ((x : A) → P x → Q x → R x → S x) → IfOk r P → IfOk r Q → IfOk r R → IfOk r S
IfOk-map (Ok x) f p q s = f x p q s
IfOk-map (Err e) f p q s = tt

-- THE FIRST BUFFER THAT PASSES

-- its name is one of a buffer
pub kept-first : (p : model.Buffer → Bool) (ks : List MarkedBuffer) → IfSome (option_map (λ (b : model.Buffer). b.name) (find p (map (λ (k : MarkedBuffer). k.buffer) ks))) (λ n. HasBuffer n ks)
kept-first p [] = tt
kept-first p (k ∷ ks) =
    let goal : Bool → Type 0 = λ b. IfSome (option_map (λ (b : model.Buffer). b.name) (cond b (Some k.buffer) (find p (map (λ (k : MarkedBuffer). k.buffer) ks)))) (λ n. HasBuffer n (k ∷ ks)) in
    let go : (b : Bool) → goal b = λ b. elim b as goal [
      | true ↦ ap (λ t. is_some (cond t (Some k) (find (marked_named k.buffer.name) ks))) (is_name k.buffer.name)
      | false ↦ later (option_map (λ (b : model.Buffer). b.name) (find p (map (λ (k : MarkedBuffer). k.buffer) ks))) (kept-first p ks)
    ]
    in go (p k.buffer)
  where
    later : (o : Option (List ℕ)) → IfSome o (λ n. HasBuffer n ks) → IfSome o (λ n. HasBuffer n (k ∷ ks))
    later None h = tt
    later (Some n) h = elim (marked_named n k) as (λ b. is_some (cond b (Some k) (find (marked_named n) ks)) ≡ true) [ true ↦ refl | false ↦ h ]
