-- The name of a user, as it is read.
use Rattle.std.proofs.Common.{◌≡◌, ◌<◌, ℕ, List, length, map, get_or, refl, sym, ap, ◌∙◌, Bool, true, false, arith}
use Rattle.std.proofs.lemmas.Bool.{and_parts, leb-true}
use Rattle.std.proofs.lemmas.Bool.Decides.{nat_tests}
use Rattle.std.proofs.lemmas.List.{get_or-map, length-map}
use Rattle.std.proofs.lemmas.List.Sums.{AllPass-from_list_all}
use Rattle.std.specs.Char.{is_ascii}
use Rattle.std.specs.List.{list_all}
use Rattle.std.specs.Prelude.{None, nat_le, ◌&&◌}
use Rattle.mgs_model.specs.Names.{is_user_name, is_visible, IsName}
use Rattle.mgs_model.proofs.NameLemmas.{is_name-user_name}
use Rattle.mgs_model.specs.Spelling.{user_named}

no_user_named : (bs : List ℕ) (b : Bool) → is_user_name bs ≡ b → (IsName bs → ⊥) → user_named bs ≡ None
no_user_named bs true is not_name = absurd (not_name (is_name-user_name bs is))
no_user_named bs false is not_name = rw is

-- what is no name is no user's name
pub user_named_no_name : (bs : List ℕ) → (IsName bs → ⊥) → user_named bs ≡ None
user_named_no_name bs not_name = no_user_named bs (is_user_name bs) refl not_name

visible : (bs : List ℕ) → IsName bs → list_all is_visible bs ≡ true
visible bs h = (and_parts (nat_le (length bs) 32) (list_all is_visible bs) (and_parts (nat_le 1 (length bs)) (nat_le (length bs) 32 && list_all is_visible bs) h).1).1

-- what has a character past ASCII is no name
pub no_name_past_ascii : {X : Type 0} (number : X → ℕ) (word : List X) (i : ℕ) (c : X) → i < length word → c ≡ get_or word i c → is_ascii (number c) ≡ false → IsName (map number word) → ⊥
no_name_past_ascii number word i c within at past h =
    let seen = AllPass-from_list_all is_visible (map number word) (visible (map number word) h) i (number c) (omega (arith, within, length-map word number)) in
    let low : nat_le (number c) 126 ≡ true = (and_parts (nat_le 33 (number c)) (nat_le (number c) 126) (ap is_visible (ap number at ∙ sym (get_or-map number word i c (number c) within)) ∙ seen)).1 in
    grind (arith, nat_tests, leb-true (number c) 126 low)
