-- A user's name is a name.
use Rattle.std.proofs.Common.{◌≡◌, ℕ, List, [], ◌∷◌, length, refl, true, arith}
use Rattle.std.specs.Prelude.{◌&&◌, nat_le}
use Rattle.std.specs.List.{list_all}
use Rattle.std.proofs.lemmas.Bool.{and_from, and_parts}
use Rattle.std.proofs.lemmas.Bool.Decides.{nat_tests}
use Rattle.mgs_model.specs.Names.{is_name, is_user_name, is_visible, is_user_char}

is_visible-user_char : (c : ℕ) → is_user_char c ≡ true → is_visible c ≡ true
is_visible-user_char c h = grind (arith, nat_tests)

all_visible : (bs : List ℕ) → list_all is_user_char bs ≡ true → list_all is_visible bs ≡ true
all_visible [] h = refl
all_visible (c ∷ cs) h =
    let (first, rest) = and_parts (is_user_char c) (list_all is_user_char cs) h in
    and_from (is_visible c) (list_all is_visible cs) (is_visible-user_char c first) (all_visible cs rest)

pub is_name-user_name : (bs : List ℕ) → is_user_name bs ≡ true → is_name bs ≡ true
is_name-user_name bs h =
    let (some, rest) = and_parts (nat_le 1 (length bs)) (nat_le (length bs) 32 && list_all is_user_char bs) h in
    let (few, all) = and_parts (nat_le (length bs) 32) (list_all is_user_char bs) rest in
    and_from _ _ some (and_from _ _ few (all_visible bs all))
