-- The lines of a script.
use Rattle.std.specs.Prelude.{ℕ, List, Option}
use Rattle.std.specs.List.{slice_split, before_first}
use Rattle.mgs_model.specs.Lines.{is_feed}
use Rattle.mgs_keys.specs.Words.{rest_after, parts_after}

-- the texts between line feeds; the last may be empty
abbrev pub lines_of : List ℕ → List (List ℕ)
lines_of script = slice_split is_feed script

-- the first line
abbrev pub line_in : List ℕ → List ℕ
line_in script = before_first is_feed script

-- what stands after the first line feed, if there is one
abbrev pub after_line : List ℕ → Option (List ℕ)
after_line script = rest_after is_feed script

-- the lines of what stands after it
abbrev pub lines_after : Option (List ℕ) → List (List ℕ)
lines_after rest = parts_after is_feed rest
