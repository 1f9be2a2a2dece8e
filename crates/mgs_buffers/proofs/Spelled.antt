-- A name is ASCII, and so a text.
use Rattle.std.proofs.Common.{◌≡◌, ◌<◌, ℕ, Bool, true, false, ◌&&◌, List, [], ◌∷◌, length, refl, arith}
use Rattle.std.specs.Prelude.{nat_le}
use Rattle.std.specs.List.{list_all}
use Rattle.std.specs.Str.{IsAscii, IsUtf8}
use Rattle.std.proofs.lemmas.Str.{IsUtf8-from_ascii}
use Rattle.std.proofs.lemmas.Str.Ascii.{IsAscii-nil, IsAscii-cons}
use Rattle.mgs_model.specs.Names.{IsName, is_visible}

both : (a b : Bool) → (a && b) ≡ true → (a ≡ true) × (b ≡ true)
both true true e = (refl, refl)
both true false e = cc
both false b e = cc

visible_small : (c : ℕ) → is_visible c ≡ true → c < 128
visible_small c e = grind (arith, e)

visible_ascii : (bs : List ℕ) → list_all is_visible bs ≡ true → IsAscii bs
visible_ascii [] e = IsAscii-nil
visible_ascii (b ∷ bs) e =
    let parts = both (is_visible b) (list_all is_visible bs) e in
    IsAscii-cons b bs (visible_small b parts.0) (visible_ascii bs parts.1)

pub name_is_text : (bs : List ℕ) → IsName bs → IsUtf8 bs
name_is_text bs h =
    let long = both (nat_le 1 (length bs)) (nat_le (length bs) 32 && list_all is_visible bs) h in
    IsUtf8-from_ascii bs (visible_ascii bs (both (nat_le (length bs) 32) (list_all is_visible bs) long.1).1)
