-- Marks: in each slot a position, or none where the slot is free.
use Rattle.std.specs.Prelude.{ℕ, List, Option, Some, None, slice_get}
use Rattle.std.specs.Option.{option_and_then}

-- what a slot holds; none past the end
abbrev pub mark_in : List (Option ℕ) → ℕ → Option ℕ
mark_in marks id = option_and_then (λ m. m) (slice_get marks id)

-- a position; 0 where there is none
abbrev pub or_zero : Option ℕ → ℕ
or_zero None = 0
or_zero (Some p) = p

-- the position of a mark; 0 where there is none
abbrev pub position_in : List (Option ℕ) → ℕ → ℕ
position_in marks id = or_zero (mark_in marks id)

-- a text, and the marks in it
pub record MarkedText : Type 0 where
  pub text : List ℕ
  pub marks : List (Option ℕ)
