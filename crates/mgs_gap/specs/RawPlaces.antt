-- Raw places: places of the block, the gap counted.
use Rattle.std.specs.Prelude.{ℕ, ◌≡◌, ◌+◌, ◌-◌, List, Option, map, nat_le, if◌then◌else◌}
use Rattle.std.specs.Option.{option_map}
use Rattle.mgs_model.specs.Text.{shift}

-- the place in the text that a raw place stands for, where n characters lie before a gap of g
abbrev pub text_place : ℕ → ℕ → ℕ → ℕ
text_place n g p = if nat_le p n then p else p - g

-- the raw place of a place in the text: at the gap, the one before it
abbrev pub raw_place : ℕ → ℕ → ℕ → ℕ
raw_place n g m = if nat_le m n then m else m + g

-- p is such a raw place
abbrev pub IsRaw : ℕ → ℕ → ℕ → Type 0
IsRaw n g p = raw_place n g (text_place n g p) ≡ p

-- where a raw place goes, when k characters come in place of those from a up to b and m characters then lie before a gap of h
abbrev pub moved : ℕ → ℕ → ℕ → ℕ → ℕ → ℕ → ℕ → ℕ → ℕ
moved n g a b k m h p = raw_place m h (shift a b k (text_place n g p))

-- the marks of which these are the raw places
abbrev pub marks_at : ℕ → ℕ → List (Option ℕ) → List (Option ℕ)
marks_at n g places = map (option_map (text_place n g)) places
