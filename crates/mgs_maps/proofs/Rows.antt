-- Words in the table: a word that begins a row is that row, or goes on to it.
use Rattle.std.proofs.Common.{◌≡◌, ℕ, Bool, true, false, ◌&&◌, ◌||◌, cond, List, [], ◌∷◌, map, refl, sym, ap, subst, ◌∙◌}
use Rattle.std.specs.Prelude.{◌==◌, Option, Some, find, is_some}
use Rattle.std.specs.List.{list_any}
use Rattle.std.specs.Option.{option_map}
use Rattle.std.proofs.lemmas.Bool.{eq-eqb}
use Rattle.std.proofs.lemmas.Slice.Eq.{bytes_eq-Decides}
use Rattle.std.proofs.Math.Bool.{and-false}
use Rattle.mgs_model.specs.Names.{same_name}
use Rattle.mgs_model.specs.Keys.{KeyRow, key_rows, begins_with, is_prefix, find_row}
use Rattle.mgs_maps.specs.declared.maps.Prefix.{Prefix}
use Rattle.mgs_maps.specs.declared.maps.Prefix.TheVariants.{Empty, ControlX, MetaBracket, Quote}
use Rattle.mgs_maps.specs.declared.maps.Stroke.{Stroke}
use Rattle.mgs_maps.specs.declared.maps.Stroke.TheVariants.{Plain, Meta}
use Rattle.mgs_maps.specs.declared.table.Binding.{Binding}
use Rattle.mgs_maps.specs.Words.{ends_in, last_byte, word_of}
use Rattle.mgs_maps.specs.Table.{row_of, rows_of, command_of}

-- a longer word that begins with a word
abbrev pub goes_on : List ℕ → List ℕ → Bool
goes_on [] [] = false
goes_on (k ∷ ks) [] = true
goes_on [] (b ∷ bs) = false
goes_on (k ∷ ks) (b ∷ bs) = goes_on ks bs && (b == k)

either_way : (x s g : Bool) → (x && (s || g)) ≡ ((x && s) || (g && x))
either_way true true true = refl
either_way true true false = refl
either_way true false true = refl
either_way true false false = refl
either_way false true true = refl
either_way false true false = refl
either_way false false true = refl
either_way false false false = refl

begins : (ks bs : List ℕ) → begins_with ks bs ≡ (same_name bs ks || goes_on ks bs)
begins [] [] = refl
begins (k ∷ ks) [] = refl
begins [] (b ∷ bs) = refl
begins (k ∷ ks) (b ∷ bs) = ap (λ t. (b == k) && t) (begins ks bs) ∙ either_way (b == k) (same_name bs ks) (goes_on ks bs)

four : (s g t h : Bool) → ((s || g) || (t || h)) ≡ ((s || t) || (g || h))
four true g t h = refl
four false true true h = refl
four false true false h = refl
four false false t h = refl

some_found : (b : Bool) {A : Type 0} (x : A) (o : Option A) → is_some (cond b (Some x) o) ≡ (b || is_some o)
some_found true x o = refl
some_found false x o = refl

any_begins : (word : List ℕ) (rs : List KeyRow) → list_any (λ (r : KeyRow). begins_with r.keys word) rs ≡ (is_some (find (λ (r : KeyRow). same_name word r.keys) rs) || list_any (λ (r : KeyRow). goes_on r.keys word) rs)
any_begins word [] = refl
any_begins word (r ∷ rs) =
    ap (λ t. t || list_any (λ (r : KeyRow). begins_with r.keys word) rs) (begins r.keys word)
    ∙ ap (λ t. (same_name word r.keys || goes_on r.keys word) || t) (any_begins word rs)
    ∙ four (same_name word r.keys) (goes_on r.keys word) (is_some (find (λ (r : KeyRow). same_name word r.keys) rs)) (list_any (λ (r : KeyRow). goes_on r.keys word) rs)
    ∙ ap (λ t. t || (goes_on r.keys word || list_any (λ (r : KeyRow). goes_on r.keys word) rs)) (sym (some_found (same_name word r.keys) r (find (λ (r : KeyRow). same_name word r.keys) rs)))

-- some row is longer
abbrev pub is_half : List ℕ → Bool
is_half word = list_any (λ (r : KeyRow). goes_on r.keys word) key_rows

pub prefix_is : (word : List ℕ) → is_prefix word ≡ (is_some (find_row word) || is_half word)
prefix_is word = any_begins word key_rows

-- THE LAST BYTE OF A WORD

ends_so : (prefix : Prefix) (stroke : Stroke) → ends_in (last_byte stroke) (word_of prefix stroke) ≡ true
ends_so Empty (Plain byte) = eq-eqb byte byte refl
ends_so Empty (Meta byte) = eq-eqb byte byte refl
ends_so ControlX (Plain byte) = eq-eqb byte byte refl
ends_so ControlX (Meta byte) = eq-eqb byte byte refl
ends_so MetaBracket (Plain byte) = eq-eqb byte byte refl
ends_so MetaBracket (Meta byte) = eq-eqb byte byte refl
ends_so Quote (Plain byte) = eq-eqb byte byte refl
ends_so Quote (Meta byte) = eq-eqb byte byte refl

-- a row that is the word ends as the word does, so that end can be looked at first
pub last_tells : (prefix : Prefix) (stroke : Stroke) (keys : List ℕ) → (ends_in (last_byte stroke) keys && same_name (word_of prefix stroke) keys) ≡ same_name (word_of prefix stroke) keys
last_tells prefix stroke keys =
    let word : List ℕ = word_of prefix stroke in
    let go : (t : Bool) → same_name word keys ≡ t → (ends_in (last_byte stroke) keys && t) ≡ t = λ t. elim t as (λ t. same_name word keys ≡ t → (ends_in (last_byte stroke) keys && t) ≡ t) [
      | true ↦ λ e. ap (λ b. b && true) (subst (λ k. ends_in (last_byte stroke) k ≡ true) ((bytes_eq-Decides word keys).0 e) (ends_so prefix stroke))
      | false ↦ λ e. and-false (ends_in (last_byte stroke) keys)
    ]
    in go (same_name word keys) refl

-- THE TABLE OF THE CODE

pub found_in : (p : KeyRow → Bool) (bs : List Binding) → option_map (λ (r : KeyRow). r.command) (find p (map row_of bs)) ≡ option_map (λ (b : Binding). b.command) (find (λ (b : Binding). p (row_of b)) bs)
found_in p [] = refl
found_in p (b ∷ bs) =
    elim (p (row_of b)) as (λ t. option_map (λ (r : KeyRow). r.command) (cond t (Some (row_of b)) (find p (map row_of bs))) ≡ option_map (λ (b : Binding). b.command) (cond t (Some b) (find (λ (b : Binding). p (row_of b)) bs))) [
      | true ↦ refl
      | false ↦ found_in p bs
    ]

pub table_finds : (word : List ℕ) (bs : List Binding) → rows_of bs ≡ key_rows → option_map (λ (b : Binding). b.command) (find (λ (b : Binding). same_name word b.keys.now) bs) ≡ command_of word
table_finds word bs is =
    sym (found_in (λ (r : KeyRow). same_name word r.keys) bs)
    ∙ ap (λ rs. option_map (λ (r : KeyRow). r.command) (find (λ (r : KeyRow). same_name word r.keys) rs)) is
