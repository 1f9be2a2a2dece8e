-- How many characters a text has at least, by its bytes.
use Rattle.std.proofs.Common.{◌≡◌, ◌<◌, ◌≤◌, ◌*◌, ℕ, List, [], ◌∷◌, length, take, sym, ap, ◌∙◌, subst, arith, length-append}
use Rattle.std.proofs.lemmas.List.{length-take-le, take_all}
use Rattle.std.proofs.lemmas.Str.{len_utf8_bounds, length-encode, encodes-chars}
use Rattle.std.specs.Char.{encode_utf8}
use Rattle.std.specs.Str.{chars, IsUtf8, encode_utf8_all}
use Rattle.std.specs.Prelude.{Result, Ok, Err, IfOk, IfSome, Option, Some, None}
use Rattle.mgs_disk.specs.Reading.{IsTextIn}

encodes_len : (cs : List ℕ) → length (encode_utf8_all cs) ≤ 4 * length cs
encodes_len [] = omega arith
encodes_len (c ∷ cs) =
    let first : length (encode_utf8 c) ≤ 4 = subst (λ n. n ≤ 4) (sym (length-encode c)) (len_utf8_bounds c).1 in
    omega (arith, first, encodes_len cs, length-append (encode_utf8 c) (encode_utf8_all cs))

-- no character takes more than four bytes
pub chars_of_bytes : (bs : List ℕ) → IsUtf8 bs → length bs ≤ 4 * length (chars bs)
chars_of_bytes bs text = subst (λ xs. length xs ≤ 4 * length (chars bs)) (encodes-chars bs text) (encodes_len (chars bs))

-- what was read up to the limit is all, or shows that there is more than a text may have
text_in : (bytes read text : List ℕ) → read ≡ take 4194308 bytes → (length read < 4194308 → text ≡ chars read) → (4194308 ≤ length read → 1048576 < length text) → IsTextIn bytes text
text_in bytes read text is whole long = record {
  whole = λ few.
      let all : read ≡ bytes = is ∙ take_all 4194308 bytes (omega (arith, few)) in
      whole (subst (λ (l : List ℕ). length l < 4194308) (sym all) few) ∙ ap chars all;
  long = λ many.
      let n : length read ≡ 4194308 = ap (λ (l : List ℕ). length l) is ∙ length-take-le 4194308 bytes many in
      long (omega (arith, n));
}

pub read_so : {V E : Type 0} (items : V → List ℕ) (r : Result V E) (known : Option (List ℕ)) (read slice : List ℕ) → slice ≡ read → IfSome known (λ bytes. read ≡ take 4194308 bytes)
    → (length slice < 4194308 → IfOk r (λ t. items t ≡ chars slice)) → (4194308 ≤ length slice → IfOk r (λ t. 1048576 < length (items t)))
    → IfOk r (λ t. IfSome known (λ bytes. IsTextIn bytes (items t)))
read_so items (Err e) known read slice same is whole long = tt
read_so items (Ok t) None read slice same is whole long = tt
read_so items (Ok t) (Some bytes) read slice same is whole long = text_in bytes slice (items t) (same ∙ is) whole long
