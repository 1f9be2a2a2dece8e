-- What is kept of a buffer's text.
use Rattle.std.specs.Prelude.{ℕ, ℤ, Bool, List}

-- the text as it was between two events, as UTF-8; whether the buffer was modified then; and a sum of the text that its file had
pub record KeptText : Type 0 where
  pub body : List ℕ
  pub modified : Bool
  pub file : ℤ
