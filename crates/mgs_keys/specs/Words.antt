-- The words of a text, parted by single spaces.
use Rattle.std.specs.Prelude.{ℕ, ◌+◌, nat_le, nat_lt, ◌==◌, Bool, not, ◌&&◌, List, [], length, drop, position, Option, Some, None, if◌then◌else◌}
use Rattle.std.specs.Option.{option_map, option_and_then}
use Rattle.std.specs.List.{slice_split, before_first, list_all}
use Rattle.std.specs.Str.{is_utf8}
use Rattle.mgs_model.specs.Names.{is_space}

-- what stands after the first byte that passes, if there is one
abbrev pub rest_after : (ℕ → Bool) → List ℕ → Option (List ℕ)
rest_after p t = option_map (λ i. drop (i + 1) t) (position p t)

-- the parts of such a rest
abbrev pub parts_after : (ℕ → Bool) → Option (List ℕ) → List (List ℕ)
parts_after p None = []
parts_after p (Some t) = slice_split p t

-- a text is at least one word; between two spaces that touch stands an empty one
abbrev pub words_of : List ℕ → List (List ℕ)
words_of t = slice_split is_space t

-- the first word
abbrev pub word_of : List ℕ → List ℕ
word_of t = before_first is_space t

-- what stands after the first space, if there is one
abbrev pub words_after : List ℕ → Option (List ℕ)
words_after t = rest_after is_space t

-- a byte of a character above the space but DEL, in UTF-8
abbrev pub is_quoted : ℕ → Bool
is_quoted b = nat_lt 32 b && not (b == 127)

-- one or more of those characters
abbrev pub is_quotable : List ℕ → Bool
is_quotable bs = nat_le 1 (length bs) && list_all is_quoted bs

-- the text that bytes are, where they are UTF-8
abbrev pub utf8_of : List ℕ → Option (List ℕ)
utf8_of bytes = if is_utf8 bytes then Some bytes else None

-- what is read of what was read before
infixl 10 ◌>>=◌
abbrev pub ◌>>=◌ : {A B : Type 0} → Option A → (A → Option B) → Option B
o >>= f = option_and_then f o
