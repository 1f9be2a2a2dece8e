-- Texts written as tokens, and the tokens of keys.
use Rattle.std.specs.Prelude.{◌≡◌, ℕ, ◌==◌, nat_le, Bool, ◌&&◌, List, [], ◌∷◌, ◌++◌, length, drop, codes, slice_index, bit_and, Option, Some, None, IsSome, Result, Ok, Err, if◌then◌else◌}
use Rattle.std.specs.Option.{option_map}
use Rattle.std.specs.Str.{bytes_eq}
use Rattle.std.specs.Global.{Vec}
use Rattle.mgs_model.specs.Names.{is_visible}
use Rattle.mgs_keys.specs.Words.{is_quotable, words_of}
use Rattle.mgs_keys.specs.declared.KeysFault.{KeysFault}
use Rattle.mgs_keys.specs.declared.KeysFault.TheVariants.{BadToken, Short}
use Rattle.mgs_keys.specs.declared.token_texts.TheConstants.{ESCAPE}
use Rattle.mgs_keys.specs.declared.tokens.TheConstants.{DELETE}
use Rattle.mgs_keys.specs.declared.token_texts.Spelling.{Spelling}
use Rattle.mgs_keys.specs.declared.token_texts.Spelling.TheVariants.{One, Escaped, Each}

-- the keys that have a name of their own
abbrev pub named_byte_of : List ℕ → Option ℕ
named_byte_of t =
    if bytes_eq t (codes "RET") then Some 13
    else if bytes_eq t (codes "TAB") then Some 9
    else if bytes_eq t (codes "SPC") then Some 32
    else if bytes_eq t (codes "ESC") then Some ESCAPE
    else if bytes_eq t (codes "DEL") then Some DELETE
    else if bytes_eq t (codes "C-SPC") then Some 0
    else if bytes_eq t (codes "C-_") then Some 31
    else None

-- `C-a` to `C-z`: the low five bits of the letter
abbrev pub is_control : List ℕ → Bool
is_control t =
    (length t == 3) && ((slice_index t 0 == 67) && ((slice_index t 1 == 45) && (nat_le 97 (slice_index t 2) && nat_le (slice_index t 2) 122)))

abbrev pub control_byte_of : List ℕ → Option ℕ
control_byte_of t = if is_control t then Some (bit_and (slice_index t 2) 31) else None

-- the byte that ESC stands before: `M-` and a visible character, `M-SPC` or `M-DEL`
abbrev pub is_meta : List ℕ → Bool
is_meta t = (length t == 3) && ((slice_index t 0 == 77) && ((slice_index t 1 == 45) && is_visible (slice_index t 2)))

abbrev pub meta_byte_of : List ℕ → Option ℕ
meta_byte_of t =
    if bytes_eq t (codes "M-SPC") then Some 32
    else if bytes_eq t (codes "M-DEL") then Some DELETE
    else if is_meta t then Some (slice_index t 2)
    else None

-- `'` and what it quotes: one or more visible characters, each its byte
abbrev pub quoted_of : List ℕ → Option (List ℕ)
quoted_of t = if (slice_index t 0 == 39) && is_quotable (drop 1 t) then Some (drop 1 t) else None

-- the first of two that is there
abbrev pub or_else_of : {A : Type 0} → Option A → Option A → Option A
or_else_of (Some x) later = Some x
or_else_of None later = later

-- the bytes of one token
unfoldable pub token_bytes : List ℕ → Option (List ℕ)
token_bytes t =
    or_else_of (option_map (λ b. b ∷ []) (named_byte_of t))
    (or_else_of (option_map (λ b. b ∷ []) (control_byte_of t))
    (or_else_of (option_map (λ b. ESCAPE ∷ b ∷ []) (meta_byte_of t))
    (quoted_of t)))

-- the bytes of one part and then those of the rest; none where either is none
abbrev pub then_bytes : Option (List ℕ) → Option (List ℕ) → Option (List ℕ)
then_bytes None later = None
then_bytes (Some bs) later = option_map (λ cs. bs ++ cs) later

-- what words spell, one after the other, by what each of them spells
abbrev pub spelled_by : (List ℕ → Option (List ℕ)) → List (List ℕ) → Option (List ℕ)
spelled_by f [] = Some []
spelled_by f (t ∷ ts) = then_bytes (f t) (spelled_by f ts)

-- the keys that a text spells
abbrev pub keys_of : List ℕ → Option (List ℕ)
keys_of text = spelled_by token_bytes (words_of text)

-- the bytes of a spelling, as the code holds it
abbrev pub bytes_in : Spelling → List ℕ
bytes_in (One byte) = byte ∷ []
bytes_in (Escaped byte) = ESCAPE ∷ byte ∷ []
bytes_in (Each bytes) = bytes.now

-- exactly what a text spells; BadToken exactly where it spells nothing, and out of memory only where it spells something
abbrev pub GivesKeys : Result (Vec ℕ) KeysFault → Option (List ℕ) → Type 0
GivesKeys (Ok v) told = told ≡ Some v.items
GivesKeys (Err BadToken) told = told ≡ None
GivesKeys (Err Short) told = IsSome told
