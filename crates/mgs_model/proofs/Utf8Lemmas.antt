-- Whether bytes are UTF-8, and the characters that they are.
use Rattle.std.proofs.Common.{◌≡◌, ◌++◌, ℕ, List, [], ◌∷◌, length, drop, false, true, refl, sym, ap, ◌∙◌, arith}
use Rattle.std.specs.Prelude.{Bool, Option, Some, None, cond, encode_utf8}
use Rattle.mgs_model.specs.Sequences.{begun_of, sequence_read, whole_of}
use Rattle.mgs_model.specs.declared.sequence.Sequence.{Sequence}
use Rattle.mgs_model.specs.declared.sequence.Sequence.TheVariants.{Whole, Begun, Broken}
use Rattle.std.specs.Str.{IsUtf8, is_utf8, chars}
use Rattle.std.specs.Str.Lossy.{utf8_valid_len, utf8_error_len}
use Rattle.std.proofs.lemmas.Bool.{false_from_ne_true, true≢false}
use Rattle.std.proofs.lemmas.Str.{IsUtf8-from_is_utf8, is_utf8-from_IsUtf8, chars_past_char}

pub is_text : (bs : List ℕ) → IsUtf8 bs → is_utf8 bs ≡ true
is_text bs h = is_utf8-from_IsUtf8 bs h

pub is_none : (bs : List ℕ) → (IsUtf8 bs → ⊥) → is_utf8 bs ≡ false
is_none bs h = false_from_ne_true _ (λ e. h (IsUtf8-from_is_utf8 bs e))

pub chars_first : (bs rest : List ℕ) (c : ℕ) → IsUtf8 bs → bs ≡ encode_utf8 c ++ rest → chars bs ≡ c ∷ chars rest
chars_first bs rest c h e = chars_past_char bs rest c h e

pub chars_empty : (bs : List ℕ) → length bs ≡ 0 → chars bs ≡ []
unfolding chars
chars_empty [] e = refl
chars_empty (b ∷ bs) e = absurd (omega arith)

-- more bytes than three are never some first bytes of a character
abbrev is_begun : Sequence → Bool
is_begun Begun = true
is_begun (Whole c) = false
is_begun Broken = false

pub four_bytes : (a b c d : ℕ) → sequence_read (a ∷ b ∷ c ∷ d ∷ []) ≡ Begun → ⊥
unfolding sequence_read
four_bytes a b c d e =
    let bs : List ℕ = a ∷ b ∷ c ∷ d ∷ [] in
    let no : true ≡ false = sym (ap is_begun e) ∙ by (is_utf8 bs) (chars bs) (utf8_error_len (drop (utf8_valid_len bs) bs)) in
    true≢false no
  where
    whole : (cs : List ℕ) → is_begun (whole_of cs) ≡ false
    whole [] = refl
    whole (x ∷ xs) = refl

    by : (t : Bool) (cs : List ℕ) (o : Option ℕ) → is_begun (cond t (whole_of cs) (begun_of 4 o)) ≡ false
    by true cs o = whole cs
    by false cs None = refl
    by false cs (Some n) = refl
