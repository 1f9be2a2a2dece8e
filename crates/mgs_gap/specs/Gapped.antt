-- A text with a gap in it.
use Rattle.std.specs.Prelude.{ℕ, List, ◌++◌}

-- what lies before the gap, how many places it has, and what lies after it
pub record Gapped : Type 0 where
  pub front : List ℕ
  pub gap : ℕ
  pub back : List ℕ

abbrev pub gapped : List ℕ → ℕ → List ℕ → Gapped
gapped f g k = record { front = f; gap = g; back = k }

-- the characters of the text
abbrev pub text_of : Gapped → List ℕ
text_of b = b.front ++ b.back
