-- How many bytes a text has as UTF-8.
use Rattle.std.proofs.Common.{◌≡◌, ◌+◌, ◌*◌, ◌<◌, ◌≤◌, ℕ, List, [], ◌∷◌, length, drop, slice_index, sym, ap, ◌∙◌, subst, arith, length-append}
use Rattle.std.proofs.lemmas.List.{drop_more}
use Rattle.std.proofs.lemmas.Str.{len_utf8_bounds, length-encode}
use Rattle.std.specs.Char.{encode_utf8}
use Rattle.std.specs.Str.{encode_utf8_all}

-- no character takes more than four bytes
pub encodes_len : (cs : List ℕ) → length (encode_utf8_all cs) ≤ 4 * length cs
encodes_len [] = omega arith
encodes_len (c ∷ cs) =
    let first : length (encode_utf8 c) ≤ 4 = subst (λ n. n ≤ 4) (sym (length-encode c)) (len_utf8_bounds c).1 in
    omega (arith, first, encodes_len cs, length-append (encode_utf8 c) (encode_utf8_all cs))

-- one more was counted
pub counted : (n w c i : ℕ) (text : List ℕ) (all : ℕ) → i < length text → c ≡ slice_index text i → w ≡ length (encode_utf8 c)
    → n + length (encode_utf8_all (drop i text)) ≡ all → n + w + length (encode_utf8_all (drop (i + 1) text)) ≡ all
counted n w c i text all within is wide so =
    let split : drop i text ≡ c ∷ drop (i + 1) text = drop_more text i 0 within ∙ ap (λ (x : ℕ). x ∷ drop (i + 1) text) (sym is) in
    let both = ap (λ (l : List ℕ). length (encode_utf8_all l)) split in
    omega (arith, so, both, wide, length-append (encode_utf8 c) (encode_utf8_all (drop (i + 1) text)))
