-- No row of the table is one character that inserts itself, and none is a prefix, so these need no look-up.
use Rattle.std.proofs.Common.{◌≡◌, ℕ, Bool, true, false, not, ◌&&◌, ◌||◌, cond, List, [], ◌∷◌, refl, sym, ap, subst, ◌∙◌, true≢false}
use Rattle.std.specs.Prelude.{◌==◌, find, Option, Some, None, if◌then◌else◌}
use Rattle.std.specs.Option.{option_map}
use Rattle.std.specs.List.{list_all}
use Rattle.std.proofs.lemmas.Bool.{eqb-true}
use Rattle.std.proofs.Math.Bool.{and-false}
use Rattle.mgs_model.specs.Keys.{KeyRow, Half, Bound, is_graphic, value_of, key_rows}
use Rattle.mgs_model.specs.Names.{same_name}
use Rattle.mgs_model.specs.declared.session.Argument.{Argument}
use Rattle.mgs_model.specs.declared.session.Insertion.TheVariants.{SelfInsert}
use Rattle.mgs_model.specs.declared.session.Command.TheVariants.{Insert}
use Rattle.mgs_maps.specs.declared.maps.Prefix.{Prefix}
use Rattle.mgs_maps.specs.declared.maps.Prefix.TheVariants.{Empty, ControlX, MetaBracket, Quote}
use Rattle.mgs_maps.specs.declared.maps.Stroke.{Stroke}
use Rattle.mgs_maps.specs.declared.maps.Stroke.TheVariants.{Plain, Meta}
use Rattle.mgs_maps.specs.Held.{prefix_bytes}
use Rattle.mgs_maps.specs.Table.{command_of}
use Rattle.mgs_maps.specs.Words.{prefix_after, inserted, chosen, word_reads}

abbrev is_character : ℕ → Bool
is_character byte = is_graphic byte || (byte == 9)

-- a word that is no such character
abbrev is_other : List ℕ → Bool
is_other [] = true
is_other (b ∷ []) = not (is_character b)
is_other (b ∷ c ∷ bs) = true

other_word : (byte : ℕ) (keys : List ℕ) → is_character byte ≡ true → is_other keys ≡ true → same_name (byte ∷ []) keys ≡ false
other_word byte [] is other = refl
other_word byte (b ∷ []) is other =
    let go : (t : Bool) → (byte == b) ≡ t → ((byte == b) && true) ≡ false = λ t. elim t as (λ t. (byte == b) ≡ t → ((byte == b) && true) ≡ false) [
      | true ↦ λ e. absurd (true≢false (sym other ∙ ap not (subst (λ n. is_character n ≡ true) (eqb-true byte b e) is)))
      | false ↦ λ e. ap (λ t. t && true) e
    ]
    in go (byte == b) refl
other_word byte (b ∷ c ∷ bs) is other = and-false (byte == b)

both : (s t : Bool) → (s && t) ≡ true → (s ≡ true) × (t ≡ true)
both true t h = (refl, h)
both false t h = absurd (true≢false (sym h))

none_found : (byte : ℕ) (rows : List KeyRow) → is_character byte ≡ true → list_all (λ (r : KeyRow). is_other r.keys) rows ≡ true → find (λ (r : KeyRow). same_name (byte ∷ []) r.keys) rows ≡ None
none_found byte [] is others = refl
none_found byte (r ∷ rows) is others =
    let parts : (is_other r.keys ≡ true) × (list_all (λ (r : KeyRow). is_other r.keys) rows ≡ true) = both (is_other r.keys) (list_all (λ (r : KeyRow). is_other r.keys) rows) others in
    ap (λ t. cond t (Some r) (find (λ (r : KeyRow). same_name (byte ∷ []) r.keys) rows)) (other_word byte r.keys is parts.0)
    ∙ none_found byte rows is parts.1

-- the table has no such row
no_command : (byte : ℕ) → is_character byte ≡ true → command_of (byte ∷ []) ≡ None
no_command byte is = ap (option_map (λ (r : KeyRow). r.command)) (none_found byte key_rows is refl)

no_prefix : (byte : ℕ) → is_character byte ≡ true → prefix_after Empty (Plain byte) ≡ None
no_prefix byte is =
    let goal : Bool → Type 0 = λ t. (if t then Some ControlX else None) ≡ None in
    let go : (t : Bool) → (byte == 24) ≡ t → goal t = λ t. elim t as (λ t. (byte == 24) ≡ t → goal t) [
      | true ↦ λ e. absurd (true≢false (sym (subst (λ n. is_character n ≡ true) (eqb-true byte 24 e) is)))
      | false ↦ λ e. refl
    ]
    in go (byte == 24) refl

plain_inserts : (a : Option Argument) (byte c : ℕ) (t : Bool) → is_character byte ≡ t → (if t then Some byte else None) ≡ Some c → word_reads a Empty (Plain byte) ≡ Bound (Insert (SelfInsert c)) (value_of a)
plain_inserts a byte c true is same =
    ap (λ o. chosen a o (prefix_after Empty (Plain byte)) (inserted Empty (Plain byte))) (no_command byte is)
    ∙ ap (λ o. chosen a None o (inserted Empty (Plain byte))) (no_prefix byte is)
    ∙ ap (λ t. chosen a None None (if t then Some byte else None)) is
    ∙ ap (chosen a None None) same
plain_inserts a byte c false is same = cc

-- what inserts itself is no row and no prefix
pub inserts_first : (a : Option Argument) (prefix : Prefix) (stroke : Stroke) (c : ℕ) → inserted prefix stroke ≡ Some c → word_reads a prefix stroke ≡ Bound (Insert (SelfInsert c)) (value_of a)
inserts_first a Empty (Plain byte) c same = plain_inserts a byte c (is_character byte) refl same
inserts_first a Empty (Meta byte) c same = cc
inserts_first a ControlX stroke c same = cc
inserts_first a MetaBracket stroke c same = cc
inserts_first a Quote stroke c same = cc

control_x : (a : Option Argument) (byte : ℕ) (next : Prefix) (t : Bool) → (byte == 24) ≡ t → (if t then Some ControlX else None) ≡ Some next → word_reads a Empty (Plain byte) ≡ Half a (prefix_bytes next)
control_x a byte next true is same =
    ap (λ b. word_reads a Empty (Plain b)) (eqb-true byte 24 is)
    ∙ ap (λ o. chosen a None o None) same
control_x a byte next false is same = cc

meta_bracket : (a : Option Argument) (byte : ℕ) (next : Prefix) (t : Bool) → (byte == 91) ≡ t → (if t then Some MetaBracket else None) ≡ Some next → word_reads a Empty (Meta byte) ≡ Half a (prefix_bytes next)
meta_bracket a byte next true is same =
    ap (λ b. word_reads a Empty (Meta b)) (eqb-true byte 91 is)
    ∙ ap (λ o. chosen a None o None) same
meta_bracket a byte next false is same = cc

-- a prefix is no row
pub prefix_first : (a : Option Argument) (prefix : Prefix) (stroke : Stroke) (next : Prefix) → inserted prefix stroke ≡ None → prefix_after prefix stroke ≡ Some next → word_reads a prefix stroke ≡ Half a (prefix_bytes next)
prefix_first a Empty (Plain byte) next none same = control_x a byte next (byte == 24) refl same
prefix_first a Empty (Meta byte) next none same = meta_bracket a byte next (byte == 91) refl same
prefix_first a ControlX stroke next none same = cc
prefix_first a MetaBracket stroke next none same = cc
prefix_first a Quote stroke next none same = cc
