-- Bytes that are written in parts.
use Rattle.std.proofs.Common.{◌≡◌, ℕ, ◌+◌, ◌-◌, ◌≤◌, List, length, take, drop, Option, sym, ap, subst, arith, length-drop}
use Rattle.std.proofs.Math.Seq.{take-add}
use Rattle.std.proofs.lemmas.List.{take_all}
use Rattle.std.proofs.KnownBytes.{Appends-trans}
use Rattle.std.specs.Io.KnownBytes.{Appends}

-- all that stands after the first i
rest_whole : (bytes : List ℕ) (i : ℕ) → take (length bytes - i) (drop i bytes) ≡ drop i bytes
rest_whole bytes i = take_all (length bytes - i) (drop i bytes) (omega (arith, length-drop i bytes))

-- the next part was written
pub appends_more : (a b c : Option (List ℕ)) (bytes : List ℕ) (i n : ℕ) → Appends a b (take i bytes) → Appends b c (take n (take (length bytes - i) (drop i bytes))) → Appends a c (take (i + n) bytes)
appends_more a b c bytes i n p q =
    subst (Appends a c) (sym (take-add i n bytes)) (Appends-trans a b c _ _ p (subst (λ rest. Appends b c (take n rest)) (rest_whole bytes i) q))

-- and it is within what there is
pub within_more : (bytes : List ℕ) (i n : ℕ) → i ≤ length bytes → n ≤ length (take (length bytes - i) (drop i bytes)) → i + n ≤ length bytes
within_more bytes i n p q = omega (arith, ap (λ rest. length rest) (rest_whole bytes i), length-drop i bytes)
