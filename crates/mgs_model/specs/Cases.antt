-- Letters of another case. Only ASCII letters have one.
use Rattle.std.specs.Prelude.{ℕ, Bool, true, false, ◌||◌, List, [], ◌∷◌, cond, map, not}
use Rattle.std.specs.Char.{is_ascii_alphabetic, is_ascii_alphanumeric, to_ascii_lowercase, to_ascii_uppercase}

abbrev pub uppercased : List ℕ → List ℕ
uppercased chars = map to_ascii_uppercase chars

abbrev pub lowercased : List ℕ → List ℕ
lowercased chars = map to_ascii_lowercase chars

-- whether the next letter is the first of its word: behind this character, and where it would have been so for this one
abbrev pub begins_word : Bool → ℕ → Bool
begins_word begins c = cond (is_ascii_alphabetic c) false (begins || not (is_ascii_alphanumeric c))

-- the first letter of each word in upper case, and the others in lower case; digits before it are passed over
abbrev pub capitalized_from : Bool → List ℕ → List ℕ
capitalized_from begins [] = []
capitalized_from begins (c ∷ cs) =
    cond begins (to_ascii_uppercase c) (to_ascii_lowercase c) ∷ capitalized_from (begins_word begins c) cs

-- a stretch that begins inside a word begins one there
abbrev pub capitalized : List ℕ → List ℕ
capitalized chars = capitalized_from true chars
