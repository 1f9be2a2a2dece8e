-- What is left in a vector whose elements were lent as a slice.
use Rattle.std.proofs.Common.{◌≡◌, List, length, sym, subst}
use Rattle.std.specs.Prelude.{Vec}
use Rattle.std.specs.Vec.{with_items}
use Rattle.std.proofs.lemmas.List.{with_items_is}

-- what holds of the slice before and after holds of the vector
pub lent : {X Z : Type 0} (P : List X → List X → Type 0) (v : Vec X Z) (xs ys : List X) → xs ≡ v.items → length ys ≡ v.len → P xs ys → P v.items (with_items v ys).items
lent P v xs ys is same holds = subst (λ zs. P zs (with_items v ys).items) is (subst (P xs) (sym (with_items_is v ys same)) holds)
