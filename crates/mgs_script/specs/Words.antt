-- What the words of a script's line say.
use Rattle.std.specs.Prelude.{ℕ, ◌==◌, nat_le, Bool, ◌&&◌, not, List, [], ◌∷◌, length, codes, Option, Some, None, if◌then◌else◌}
use Rattle.std.specs.List.{list_all}
use Rattle.std.specs.Option.{option_map}
use Rattle.std.specs.Str.{bytes_eq, chars}
use Rattle.mgs_model.specs.Names.{is_name}
use Rattle.mgs_keys.specs.Words.{◌>>=◌, word_of, words_after, words_of}
use Rattle.mgs_keys.specs.Numbers.{number_of}
use Rattle.mgs_keys.specs.Tokens.{quoted_of, spelled_by}

-- a label or a buffer's name
abbrev pub name_of : List ℕ → Option (List ℕ)
name_of w = if is_name w then Some w else None

-- any word: one or more bytes without a carriage return; a cut leaves no space in it
abbrev pub is_word : List ℕ → Bool
is_word w = nat_le 1 (length w) && list_all (λ b. not (b == 13)) w

abbrev pub any_word_of : List ℕ → Option (List ℕ)
any_word_of w = if is_word w then Some w else None

-- the characters of one token of a text, in UTF-8
unfoldable pub token_characters : List ℕ → Option (List ℕ)
token_characters t =
    if bytes_eq t (codes "RET") then Some (10 ∷ [])
    else if bytes_eq t (codes "TAB") then Some (9 ∷ [])
    else if bytes_eq t (codes "SPC") then Some (32 ∷ [])
    else quoted_of t

-- the characters that a text of tokens spells
abbrev pub text_of : List ℕ → Option (List ℕ)
text_of t = option_map chars (spelled_by token_characters (words_of t))

-- rows and columns
abbrev pub size_said : List ℕ → Option (ℕ × ℕ)
size_said t = do
  rows ← number_of (word_of t)
  rest ← words_after t
  cols ← number_of rest
  Some (rows, cols)
