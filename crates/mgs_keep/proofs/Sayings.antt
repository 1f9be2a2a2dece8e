-- The names that are read.
use Rattle.std.proofs.Common.{◌≡◌, Bool, true, false, List, ℕ, Option, Some, None, refl, ap}
use Rattle.std.specs.Prelude.{IsSome, IfSome, IsTrue, cond, ◌↔◌}
use Rattle.mgs_model.specs.Names.{IsName, is_name}
use Rattle.mgs_keys.specs.Words.{◌>>=◌}
use Rattle.mgs_keep.specs.Keeping.{name_in_text}

some_is : {A : Type 0} (a b : A) → Some a ≡ Some b → a ≡ b
some_is a b e = cc

read_by : (b : Bool) (text : List ℕ) (o : Option (List ℕ)) → (IsSome o ↔ IsTrue b) → IfSome o (λ n. n ≡ text) → o ≡ cond b (Some text) None
read_by true text (Some n) is value = ap (λ (x : List ℕ). Some x) value
read_by true text None is value = let e = is.1 refl in cc
read_by false text (Some n) is value = let e = is.0 refl in cc
read_by false text None is value = refl

pub read_is : (text : List ℕ) (o : Option (List ℕ)) → (IsSome o ↔ IsName text) → IfSome o (λ n. n ≡ text) → o ≡ name_in_text text
read_is text o is value = read_by (is_name text) text o is value

-- the name that the bytes of a text are
pub text_in : (o : Option (List ℕ)) (text : List ℕ) → Some text ≡ o → name_in_text text ≡ o >>= name_in_text
text_in None text is = cc
text_in (Some t) text is = ap name_in_text (some_is text t is)
